use Rattle.std.proofs.Common.{sym, ◌∙◌, subst}
use Rattle.std.proofs.lemmas.Bool.{false≢true}
use Rattle.mct_circuit.specs.Gates.{AreGatesOn}
use Rattle.qasm_format.specs.Registers.{lines_of_all}
use Rattle.qasm_format.specs.Stages.{wants_name, starts}
use Rattle.qasm_format.specs.Qasm.{Reads}
use Rattle.qasm_format.specs.Faults.{IsStop}
use Rattle.qasm_format.specs.inside.Names.{DeclaredView}
use Rattle.qasm_format.specs.inside.Says.{said_of}
use Rattle.revc_base.proofs.ResultLemmas.{passes_on}
use Rattle.qasm_format.proofs.ReadingLemmas.{reads_then, stops_later}
use Rattle.qasm_format.proofs.StageLemmas.{fault_at_name, kept_at_name, reads_name}
use Rattle.qasm_format.proofs.DeclaredLemmas.{among_has, none_has, not_among}
use Rattle.qasm_format.proofs.DeclarationLemmas.{free_is_name, name_is_free, gates_stay_on}
use Rattle.qasm_format.proofs.reader.read_declaration.Goals as goal

pub returns-in_err-name-clause-err : goal.returns-in_err-name-clause-err
returns-in_err-name-clause-err c =
    passes_on (IsStop c.args.tokens.now (wants_name c.args.kind (said_of c.args.said.now))) c.from_residual.result c.from_residual.ensures.1
    (fault_at_name _ _ c.args.kind (said_of c.args.said.now) c.in_err-name.ensures.err)

pub returns-then-not-is_free-clause-err : goal.returns-then-not-is_free-clause-err
returns-then-not-is_free-clause-err c =
    kept_at_name c.args.kind (said_of c.args.said.now) c.in_ok-name.ensures.ok
    (λ named fresh. false≢true (sym (sym c.is_free.ensures ∙ c.if-not-is_free.true) ∙ name_is_free _ named))

pub returns-then-has-clause-err : goal.returns-then-has-clause-err
returns-then-has-clause-err c =
    kept_at_name c.args.kind (said_of c.args.said.now) c.in_ok-name.ensures.ok
    (λ named fresh. fresh (among_has _ _ (sym c.has.ensures ∙ c.if-has.true)))

pub returns-in_err-size-clause-err : goal.returns-in_err-size-clause-err
returns-in_err-size-clause-err c =
    passes_on (IsStop c.args.tokens.now (wants_name c.args.kind (said_of c.args.said.now))) c.from_residual-in_err-size.result
    c.from_residual-in_err-size.ensures.1 (stops_later _ (reads_name c.args.kind (said_of c.args.said.now) c.in_ok-name.ensures.ok
    (free_is_name _ c.in_ok-name.ensures.ok.spelled c.in_ok-name.ensures.ok.few (sym c.is_free.ensures ∙ c.if-not-is_free.false))
    (not_among _ _ (none_has _ _ (sym c.has.ensures ∙ c.if-has.false))))
    (c.in_err-size.ensures.err.says c.in_ok-name.name.word.now (said_of c.args.said.now) (sym c.lines.ensures.lines)))

pub returns-clause-ok : goal.returns-clause-ok
returns-clause-ok c =
    subst (λ (d : DeclaredView). Reads c.args.tokens.now c.take_size.new.tokens (wants_name c.args.kind (said_of c.args.said.now))
    (starts (said_of (record { included = c.args.said.now.included; declared = d; gates = c.args.said.now.gates })))) (sym c.in_ok-push.ensures.ok)
    (reads_then (reads_name c.args.kind (said_of c.args.said.now) c.in_ok-name.ensures.ok
    (free_is_name _ c.in_ok-name.ensures.ok.spelled c.in_ok-name.ensures.ok.few (sym c.is_free.ensures ∙ c.if-not-is_free.false))
    (not_among _ _ (none_has _ _ (sym c.has.ensures ∙ c.if-has.false))))
    (c.in_ok-size.ensures.ok.says c.in_ok-name.name.word.now (said_of c.args.said.now) (sym c.lines.ensures.lines)))

pub returns-clause-sound : goal.returns-clause-sound
returns-clause-sound c = record {
  placed = subst (λ (d : DeclaredView). AreGatesOn (lines_of_all d.registers) c.args.said.now.gates.items) (sym c.in_ok-push.ensures.ok)
      (gates_stay_on c.args.kind c.in_ok-name.name.word.now c.in_ok-size.size c.args.said.now.declared.registers c.args.said.now.gates.items
      c.requires.placed);
  few = c.requires.few;
}

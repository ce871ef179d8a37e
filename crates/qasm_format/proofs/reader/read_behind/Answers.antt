use Rattle.std.proofs.Common.{sym, ap, ◌∙◌, refl, [], Some}
use Rattle.qasm_format.specs.declared.file.QasmFault.{QasmFault}
use Rattle.qasm_format.specs.declared.words.Use.TheVariants.{Barrier, Flip}
use Rattle.qasm_format.specs.Stages.{starts, wants_argument, Leads}
use Rattle.qasm_format.specs.inside.Says.{said_of, ReadsBarrier, StopsAtBarrier}
use Rattle.qasm_format.proofs.PassingLemmas.{fault_becomes, ok_becomes}
use Rattle.qasm_format.proofs.StatementLemmas.{use_begins, goes_behind, stops_on}
use Rattle.qasm_format.proofs.reader.read_behind.Goals as goal
use Rattle.qasm_format.proofs.reader.read_behind.Goals.{After-read_barrier, After-read_gate}

barrier_begins : (c : After-read_barrier) → Leads c.args.token.word.now (starts (said_of c.args.said.now)) (wants_argument Barrier [] (said_of c.args.said.now))
barrier_begins c =
    use_begins c.args.token.word.now (said_of c.args.said.now) Barrier
    (sym c.use_of.ensures ∙ c.in-Some-Barrier.is ∙ ap Some c.in-Some-Barrier.field-0-is)

flip_begins : (c : After-read_gate) → Leads c.args.token.word.now (starts (said_of c.args.said.now))
    (wants_argument (Flip c.in-Some-Flip.controls) [] (said_of c.args.said.now))
flip_begins c =
    use_begins c.args.token.word.now (said_of c.args.said.now) (Flip c.in-Some-Flip.controls)
    (sym c.use_of.ensures ∙ c.in-Some-Flip.is ∙ ap Some c.in-Some-Flip.field-0-is)

pub returns-in-Some-Barrier-clause-ok : goal.returns-in-Some-Barrier-clause-ok
returns-in-Some-Barrier-clause-ok c =
    goes_behind c.read_barrier.result _ _ _ _ _ (wants_argument Barrier [] (said_of c.args.said.now)) (barrier_begins c)
    (ok_becomes _ _ c.read_barrier.result c.read_barrier.ensures.ok
    (λ (read : ReadsBarrier c.args.tokens.now c.read_barrier.new.tokens c.args.said.now.declared.registers).
    read.reads (said_of c.args.said.now) refl))

pub returns-in-Some-Barrier-clause-err : goal.returns-in-Some-Barrier-clause-err
returns-in-Some-Barrier-clause-err c =
    stops_on c.read_barrier.result _ _ _ _ (wants_argument Barrier [] (said_of c.args.said.now)) (barrier_begins c)
    (fault_becomes _ _ c.read_barrier.result c.read_barrier.ensures.err
    (λ (fault : QasmFault) (stops : StopsAtBarrier c.args.tokens.now c.args.said.now.declared.registers fault). stops.says (said_of c.args.said.now) refl))

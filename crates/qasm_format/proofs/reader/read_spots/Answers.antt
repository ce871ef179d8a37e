use Rattle.std.proofs.Common.{◌+◌, List, [], ◌∷◌, length, sym, ap, ◌∙◌, subst, arith, codes}
use Rattle.std.proofs.lemmas.List.{length-append}
use Rattle.qasm_format.specs.declared.spots.Spot.{Spot}
use Rattle.qasm_format.specs.inside.Says.{StopsAtSpots}
use Rattle.revc_base.proofs.ResultLemmas.{passes_on}
use Rattle.qasm_format.proofs.ReadingLemmas.{same_word, other_word}
use Rattle.qasm_format.proofs.ArgumentLemmas.{InGate, gate_begun, gate_more, gate_stops, argument_fails, gate_open, spots_read}
use Rattle.qasm_format.proofs.reader.read_spots.Goals as goal

pub loop-k-init : goal.loop-k-init
loop-k-init c = record {
  gate = subst (λ (spots : List Spot). InGate c.args.tokens.now c.args.tokens.now c.args.declared.now.registers c.args.controls spots)
      (sym c.requires.none) (gate_begun c.args.tokens.now c.args.declared.now.registers c.args.controls);
  counted = ap length c.requires.none;
}

pub returns-in_err-comma-clause-err : goal.returns-in_err-comma-clause-err
returns-in_err-comma-clause-err c =
    passes_on (StopsAtSpots c.args.tokens.now c.args.declared.now.registers c.args.controls) c.from_residual.result c.from_residual.ensures.1
    (argument_fails _ _ _ c.args.controls c.loop-k.spots.items _ c.loop-k.invariant.gate c.in_err-comma.ensures.err)

pub returns-then-not-is_word-clause-err : goal.returns-then-not-is_word-clause-err
returns-then-not-is_word-clause-err c =
    let counted = c.loop-k.invariant.counted in
    gate_stops _ _ _ _ c.args.controls c.loop-k.spots.items _ _ c.in_ok-comma.comma.at c.loop-k.invariant.gate c.in_ok-comma.ensures.ok.reads
    (other_word c.in_ok-comma.comma.word.now (codes ",") (sym c.is_word.ensures ∙ c.if-not-is_word.true)) (omega arith)

pub loop-k-preserved : goal.loop-k-preserved
loop-k-preserved c =
    let read = c.in_ok-comma.ensures.ok in
    let counted = c.loop-k.invariant.counted in
    record {
      gate = subst (λ (spots : List Spot). InGate c.args.tokens.now c.push_spot.new.tokens c.args.declared.now.registers c.args.controls spots)
          (sym {A = List Spot} read.pushed)
          (gate_more _ _ _ _ c.args.controls c.loop-k.spots.items read.spot _ c.in_ok-comma.comma.at c.loop-k.invariant.gate read.reads
          (same_word c.in_ok-comma.comma.word.now (codes ",") (sym c.is_word.ensures ∙ c.if-not-is_word.false)) (omega arith));
      counted = ap length read.pushed ∙ length-append c.loop-k.spots.items (read.spot ∷ []) ∙ ap (λ n. n + 1) counted;
    }

pub returns-in_err-end-clause-err : goal.returns-in_err-end-clause-err
returns-in_err-end-clause-err c =
    passes_on (StopsAtSpots c.args.tokens.now c.args.declared.now.registers c.args.controls) c.from_residual-in_err-end.result
    c.from_residual-in_err-end.ensures.1
    (argument_fails _ _ _ c.args.controls c.loop-k.spots.items _ c.loop-k.invariant.gate c.in_err-end.ensures.err)

pub returns-then-not-is_word-2-clause-err : goal.returns-then-not-is_word-2-clause-err
returns-then-not-is_word-2-clause-err c =
    let counted = c.loop-k.invariant.counted in
    gate_open _ _ _ _ c.args.controls c.loop-k.spots.items _ _ c.in_ok-end.end.at c.loop-k.invariant.gate c.in_ok-end.ensures.ok.reads (omega arith)
    (other_word c.in_ok-end.end.word.now (codes ";") (sym c.is_word-2.ensures ∙ c.if-not-is_word-2.true))

pub returns-clause-ok : goal.returns-clause-ok
returns-clause-ok c =
    let counted = c.loop-k.invariant.counted in
    spots_read _ _ _ _ c.args.controls c.loop-k.spots.items _ c.in_ok-end.ensures.ok.spot _ c.in_ok-end.end.at
    c.lines.ensures.few c.loop-k.invariant.gate c.in_ok-end.ensures.ok.reads (omega arith) c.in_ok-end.ensures.ok.pushed
    (same_word c.in_ok-end.end.word.now (codes ";") (sym c.is_word-2.ensures ∙ c.if-not-is_word-2.false))

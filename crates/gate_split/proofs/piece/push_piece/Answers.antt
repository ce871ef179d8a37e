use Rattle.std.proofs.Common.{◌≡◌, ◌++◌, ◌∷◌, [], Some, Option, List, refl, ap, sym, subst, ◌∙◌}
use Rattle.mct_circuit.specs.Gates.{GateView, targets_of, flip_of}
use Rattle.list_facts.proofs.OrderLemmas.{AreDifferent-parts}
use Rattle.gate_split.specs.Split.{behind, flips_of_negatives}
use Rattle.gate_split.proofs.NegativeLemmas.{lines}
use Rattle.gate_split.proofs.PieceLemmas.{flip_on, swap_on, flip_piece, swap_piece, between_none, narrow_behind}
use Rattle.std.proofs.lemmas.Result.{on_ok_weaker}
use Rattle.std.specs.Result.{OnOk}
use Rattle.gate_split.proofs.piece.push_piece.Goals as goal

pub returns-then-is_narrow-clause-split : goal.returns-then-is_narrow-clause-split
returns-then-is_narrow-clause-split c =
    on_ok_weaker c.push_copy.result (narrow_behind c.args.marks.now c.args.gate.now c.args.gates.now.items _ (c.if-is_narrow.ensures.0 refl))
    c.push_copy.ensures

pub push_flip-requires-clause-gate : goal.push_flip-requires-clause-gate
push_flip-requires-clause-gate c =
    flip_on c.args.marks.now c.args.gate.now c.in-Flip.target c.deref.result.now (sym c.op.ensures.op ∙ c.in-Flip.is)
    (c.deref.ensures.value ∙ c.in_ok-lines.ensures ∙ ap lines c.controls-controls.ensures.controls) c.requires.gate

pub returns-in-Flip-clause-split : goal.returns-in-Flip-clause-split
returns-in-Flip-clause-split c =
    let piece = flip_piece c.args.marks.now c.args.gate.now c.in-Flip.target c.controls-controls.result.now c.deref.result.now
    (sym c.op.ensures.op ∙ c.in-Flip.is) c.controls-controls.ensures.controls
    (c.deref.ensures.value ∙ c.in_ok-lines.ensures ∙ ap lines c.controls-controls.ensures.controls) in
    subst (λ (o : Option (List GateView)). OnOk c.push_flip.result (behind c.args.gates.now.items o ≡ Some c.push_flip.new.gates.items))
    (sym piece) c.push_flip.ensures.split

pub push_flip-requires-clause-some : goal.push_flip-requires-clause-some
push_flip-requires-clause-some c =
    let piece = flip_piece c.args.marks.now c.args.gate.now c.in-Flip.target c.controls-controls.result.now c.deref.result.now
    (sym c.op.ensures.op ∙ c.in-Flip.is) c.controls-controls.ensures.controls
    (c.deref.ensures.value ∙ c.in_ok-lines.ensures ∙ ap lines c.controls-controls.ensures.controls) in
    λ none. c.requires.some (piece ∙ between_none (flips_of_negatives c.controls-controls.result.now) _ none)

pub push_swap-requires-clause-apart : goal.push_swap-requires-clause-apart
push_swap-requires-clause-apart c =
    let apart = (rw (sym c.op.ensures.op ∙ c.in-Swap.is) at (AreDifferent-parts (lines c.args.gate.now.controls)
    (targets_of c.args.gate.now.op) c.requires.gate.different).1).0.0 in
    (((λ e. apart (sym e)), tt), (tt, tt))

pub push_swap-requires-clause-gate : goal.push_swap-requires-clause-gate
push_swap-requires-clause-gate c =
    let controls = ap (λ l. l ++ c.in-Swap.first ∷ []) (c.in_ok-lines.ensures ∙ ap lines c.controls-controls.ensures.controls) in
    swap_on c.args.marks.now c.args.gate.now c.in-Swap.first c.in-Swap.second (c.in_ok-lines.lines.items ++ c.in-Swap.first ∷ [])
    (sym c.op.ensures.op ∙ c.in-Swap.is) controls c.requires.gate

pub returns-clause-split : goal.returns-clause-split
returns-clause-split c =
    let controls = ap (λ l. l ++ c.in-Swap.first ∷ []) (c.in_ok-lines.ensures ∙ ap lines c.controls-controls.ensures.controls) in
    let piece = swap_piece c.args.marks.now c.args.gate.now c.in-Swap.first c.in-Swap.second c.controls-controls.result.now
    (c.in_ok-lines.lines.items ++ c.in-Swap.first ∷ []) (sym c.op.ensures.op ∙ c.in-Swap.is) c.controls-controls.ensures.controls controls in
    subst (λ (o : Option (List GateView)). OnOk c.push_swap.result (behind c.args.gates.now.items o ≡ Some c.push_swap.new.gates.items))
    (sym piece) c.push_swap.ensures.split

pub push_swap-requires-clause-some : goal.push_swap-requires-clause-some
push_swap-requires-clause-some c =
    let controls = ap (λ l. l ++ c.in-Swap.first ∷ []) (c.in_ok-lines.ensures ∙ ap lines c.controls-controls.ensures.controls) in
    let piece = swap_piece c.args.marks.now c.args.gate.now c.in-Swap.first c.in-Swap.second c.controls-controls.result.now
    (c.in_ok-lines.lines.items ++ c.in-Swap.first ∷ []) (sym c.op.ensures.op ∙ c.in-Swap.is) c.controls-controls.ensures.controls controls in
    λ none. c.requires.some (piece ∙ between_none (flip_of (c.in-Swap.second ∷ []) c.in-Swap.first ∷ []) _
    (between_none (flips_of_negatives c.controls-controls.result.now) _ none))

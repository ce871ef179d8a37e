use Rattle.std.proofs.Common.{Some, refl, sym, ap, ◌∙◌}
use Rattle.std.proofs.lemmas.Result.{on_ok_weaker}
use Rattle.gate_split.specs.Split.{flips_of_negatives, split_positive, between}
use Rattle.gate_split.proofs.PieceLemmas.{surrounded_piece}
use Rattle.gate_split.proofs.piece.push_flip.Goals as goal

pub push_positive-requires-clause-gate : goal.push_positive-requires-clause-gate
push_positive-requires-clause-gate c = c.requires.gate

pub returns-clause-split : goal.returns-clause-split
returns-clause-split c =
    let inner = split_positive c.args.marks.now c.args.flip.controls.now c.args.flip.target in
    on_ok_weaker c.push_negatives-2.result (λ e. surrounded_piece c.args.gates.now.items (flips_of_negatives c.args.controls.now)
    c.push_negatives.new.gates.items c.push_positive.new.gates.items (between (flips_of_negatives c.args.controls.now) inner) inner refl
    c.in_ok-push_negatives.ensures c.in_ok-push_positive.ensures.split ∙ ap Some (sym e)) c.push_negatives-2.ensures

pub returns-clause-same : goal.returns-clause-same
returns-clause-same c = c.push_positive.ensures.same

pub returns-in_err-push_positive-clause-same : goal.returns-in_err-push_positive-clause-same
returns-in_err-push_positive-clause-same c = c.push_positive.ensures.same

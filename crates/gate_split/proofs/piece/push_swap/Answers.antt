use Rattle.std.proofs.Common.{Some, [], ◌∷◌, ◌++◌, refl, sym, ap, ◌∙◌}
use Rattle.std.proofs.lemmas.Result.{on_ok_weaker}
use Rattle.mct_circuit.specs.Gates.{flip_of}
use Rattle.gate_split.specs.Split.{flips_of_negatives, split_positive, between}
use Rattle.gate_split.proofs.PieceLemmas.{surrounded_piece}
use Rattle.gate_split.proofs.piece.push_swap.Goals as goal

pub push_one_flip-requires : goal.push_one_flip-requires
push_one_flip-requires c = c.requires.apart

pub push_one_flip-requires-2 : goal.push_one_flip-requires-2
push_one_flip-requires-2 c = c.requires.apart

pub push_flip-requires-clause-gate : goal.push_flip-requires-clause-gate
push_flip-requires-clause-gate c = rw (c.deref.ensures.value, c.in_ok-push.ensures.items) c.requires.gate

pub push_flip-requires-clause-some : goal.push_flip-requires-clause-some
push_flip-requires-clause-some c = rw (c.deref.ensures.value, c.in_ok-push.ensures.items) c.requires.some

pub returns-clause-split : goal.returns-clause-split
returns-clause-split c =
    let outer = flip_of (c.args.second ∷ []) c.args.first ∷ [] in
    let flips = between (flips_of_negatives c.args.controls.now)
    (split_positive c.args.marks.now (c.args.lines.now.items ++ c.args.first ∷ []) c.args.second) in
    let inner = rw (c.deref.ensures.value, c.in_ok-push.ensures.items) at c.in_ok-push_flip.ensures.split in
    on_ok_weaker c.push_one_flip-2.result (λ e. surrounded_piece c.args.gates.now.items outer c.push_one_flip.new.gates.items
    c.push_flip.new.gates.items (between outer flips) flips refl c.in_ok-push_one_flip.ensures inner ∙ ap Some (sym e)) c.push_one_flip-2.ensures

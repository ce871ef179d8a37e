use Rattle.std.proofs.Common.{Bool, true, arith, subst}
use Rattle.std.proofs.lemmas.List.{get_or_read}
use Rattle.sum_graph.specs.inside.Placing.{IsPlaced}
use Rattle.sum_graph.proofs.WalkLemmas.{can_step, walked_on}
use Rattle.sum_graph.proofs.walk.Walk.step.Goals as goal

pub sum_of-requires : goal.sum_of-requires
sum_of-requires c = can_step _ _ _ _ _ _ c.requires.shared c.requires.walked c.node.ensures

pub index-requires : goal.index-requires
index-requires c = omega (arith, c.requires.shared.long)

pub place-requires : goal.place-requires
place-requires c = omega (arith, c.requires.walked.few, c.requires.walked.settled.few_nodes, c.requires.place)

pub returns-clause-walked : goal.returns-clause-walked
returns-clause-walked c =
    rw c.in_ok-push.ensures.items
    (walked_on _ _ _ _ _ _ _ _ c.in_ok-sum.sum c.in_ok-slot.slot c.requires.shared c.requires.walked c.node.ensures c.in_ok-sum.ensures
    (subst (λ (b : Bool). IsPlaced b c.in_ok-sum.sum c.args.self.now.nodes.keys c.place.new.nodes.keys c.in_ok-slot.slot)
    (get_or_read c.args.self.now.shared.items c.args.k _ (omega (arith, c.requires.shared.long)) c.index.ensures true) c.in_ok-slot.ensures))

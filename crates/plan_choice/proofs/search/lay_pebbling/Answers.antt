use Rattle.std.proofs.Common.{refl, sym, ◌∙◌}
use Rattle.plan_choice.proofs.SearchLemmas.{begun, halved, ended}
use Rattle.plan_choice.proofs.search.lay_pebbling.Goals as goal

pub halving-init : goal.halving-init
halving-init c =
    let next = c.next_power_of_two-block.ensures in
    begun c.args.graph.now c.args.budget.now c.next_power_of_two-block.result next.power.0 c.lay_blocks-tried.result next.power.1
    (rw c.nodes.ensures.nodes at next.lower_bound) c.lay_blocks-tried.ensures.ok c.lay_blocks-tried.ensures.within c.lay_blocks-tried.ensures.refused

pub halving-preserved : goal.halving-preserved
halving-preserved c =
    halved c.args.graph.now c.args.budget.now c.halving.block _ c.halving.tried c.lay_blocks-tried-in-halving.result c.halving.invariant c.halving-test.true
    (sym c.is_refused.ensures ∙ c.if-is_refused.true) refl c.lay_blocks-tried-in-halving.ensures.ok
    c.lay_blocks-tried-in-halving.ensures.within c.lay_blocks-tried-in-halving.ensures.refused

pub returns-after-halving-clause-refused : goal.returns-after-halving-clause-refused
returns-after-halving-clause-refused c = ended c.args.graph.now c.args.budget.now c.halving.block c.halving.tried c.halving.invariant c.halving-test.false

use Rattle.std.proofs.Common.{ℕ, List, ap, ◌∙◌}
use Rattle.copied_plans.specs.Levels.{node_level}
use Rattle.copied_plans.proofs.LevelLemmas.{one_level}
use Rattle.copied_plans.proofs.levels.and_depth.Goals as goal

pub loop-k-preserved : goal.loop-k-preserved
loop-k-preserved c =
    one_level c.args.graph.now.nodes c.loop-k.k c.node.result c.loop-k.levels.items c.push.new.self.items c.node_level-level.result c.loop-k.depth
    c.max-depth.result c.node.ensures (c.node_level-level.ensures ∙ ap (λ (ls : List ℕ). node_level ls c.node.result) c.deref.ensures.value)
    c.in_ok-push.ensures.items c.max-depth.ensures c.loop-k.invariant

use Rattle.copied_plans.specs.inside.Levelling.{AreLevelsOf}
use Rattle.copied_plans.proofs.levels.and_depth.Given as goal

abbrev pub invariant-loop-k : goal.invariant-loop-k
invariant-loop-k l = AreLevelsOf l.graph.nodes l.k l.levels.items l.depth

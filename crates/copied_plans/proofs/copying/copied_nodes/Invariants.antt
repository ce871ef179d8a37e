use Rattle.std.proofs.Common.{◌≡◌, take}
use Rattle.copied_plans.specs.inside.Copied.{copied_nodes}
use Rattle.copied_plans.proofs.copying.copied_nodes.Given as goal

abbrev pub invariant-loop-k : goal.invariant-loop-k
invariant-loop-k l = l.sums.items ≡ copied_nodes 0 (take l.k l.graph.nodes)

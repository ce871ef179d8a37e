use Rattle.std.proofs.Common.{◌≡◌}
use Rattle.list_facts.specs.Lists.{below}
use Rattle.dependency_graph.proofs.uses.unused.Given as goal

abbrev pub invariant-loop-n : goal.invariant-loop-n
invariant-loop-n l = l.table.items ≡ below l.n

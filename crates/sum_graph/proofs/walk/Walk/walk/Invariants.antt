use Rattle.std.proofs.Common.{◌≡◌}
use Rattle.sum_graph.specs.inside.Walks.{IsWalked}
use Rattle.sum_graph.proofs.walk.Walk.walk.Given as goal

abbrev pub invariant-loop-k : goal.invariant-loop-k
invariant-loop-k l = record {
  graph : l.self.graph.now ≡ l.fn.self.graph.now;
  shared : l.self.shared.items ≡ l.fn.self.shared.items;
  walked : IsWalked l.fn.self.graph.now l.fn.self.shared.items l.self.slots.items l.self.nodes.keys l.k;
}

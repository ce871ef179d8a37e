use Rattle.std.proofs.Common.{◌≡◌}
use Rattle.sum_graph.specs.inside.Walks.{IsEnded}
use Rattle.sum_graph.proofs.walk.Walk.outputs.Given as goal

abbrev pub invariant-loop-sig : goal.invariant-loop-sig
invariant-loop-sig l = record {
  graph : l.self.graph.now ≡ l.fn.self.graph.now;
  nodes : l.self.nodes.keys ≡ l.fn.self.nodes.keys;
  ended : IsEnded l.fn.self.graph.now l.fn.self.shared.items l.self.slots.items l.fn.self.nodes.keys l.sums.items l.sig-index;
}

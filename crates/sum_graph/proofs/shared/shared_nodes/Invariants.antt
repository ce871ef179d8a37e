use Rattle.std.proofs.Common.{◌≡◌, map, take}
use Rattle.sum_graph.specs.inside.Marks.{is_shared_mark}
use Rattle.sum_graph.proofs.shared.shared_nodes.Given as goal

abbrev pub invariant-loop-mark : goal.invariant-loop-mark
invariant-loop-mark l = l.shared.items ≡ map is_shared_mark (take l.mark-index l.mark-items)

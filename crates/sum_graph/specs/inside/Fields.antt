-- What the fields of a graph of sums stand for, and what they keep.
use Rattle.std.specs.Prelude.{◌≡◌}
use Rattle.sum_graph.specs.declared.graph.SumGraph.TheInside.{Inside}
use Rattle.sum_graph.specs.Graphs.{IsSumGraph, SumGraphView}
use Rattle.sum_graph.specs.Uses.{sum_last_uses}

abbrev pub view_of : Inside → SumGraphView
view_of g = record { inputs = g.inputs; nodes = g.nodes.items; outputs = g.outputs.items }

-- the table holds the last use of each node
abbrev pub IsKept : Inside → Type 0
IsKept g = IsSumGraph (view_of g) × (g.last_uses.items ≡ sum_last_uses (view_of g))

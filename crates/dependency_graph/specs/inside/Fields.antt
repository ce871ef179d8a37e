-- What the fields of a graph stand for, and what they keep.
use Rattle.std.specs.Prelude.{◌≡◌}
use Rattle.dependency_graph.specs.declared.graph.Graph.TheInside.{Inside}
use Rattle.dependency_graph.specs.Graphs.{GraphView, IsGraph}
use Rattle.dependency_graph.specs.Uses.{last_uses_of}

abbrev pub view_of : Inside → GraphView
view_of g = record
    { inputs = g.inputs; nodes = g.nodes.items; sigs = g.sigs.items; outputs = g.outputs.items }

-- the table holds the last use of each node
abbrev pub IsKept : Inside → Type 0
IsKept g = IsGraph (view_of g) × (g.last_uses.items ≡ last_uses_of (view_of g))

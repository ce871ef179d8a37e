-- What the fields of a settled graph stand for, and what they keep.
use Rattle.std.specs.Prelude.{◌≡◌}
use Rattle.dependency_graph.specs.Uses.{last_uses_of}
use Rattle.claim_check.specs.declared.settled.Settled.TheInside.{Inside}
use Rattle.claim_check.specs.Settled.{IsSettled, SettledView, as_graph}

abbrev pub view_of : Inside → SettledView
view_of s = record { inputs = s.inputs; nodes = s.nodes.items; outputs = s.outputs.items }

-- the table holds the last use of each node
abbrev pub IsKept : Inside → Type 0
IsKept s = IsSettled (view_of s) × (s.last_uses.items ≡ last_uses_of (as_graph (view_of s)))

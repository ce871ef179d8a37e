-- Gates and plans in another order.
use Rattle.std.specs.Prelude.{◌≡◌, ◌≤◌, Bool, List}
use Rattle.std.specs.List.Sorted.{IsPermutation}
use Rattle.circuit_plans.specs.Plans.{LaidView, roles_of}
use Rattle.mct_circuit.specs.Gates.{GateView, line_map}
use Rattle.mct_circuit.specs.Sizes.{depth_of, toffoli_depth_of}

-- the same gates, each as often, with the same line map, and neither deeper nor of a greater
-- Toffoli depth
pub record AreReordered (old new : List GateView) : Type 0 where
  pub permutation : IsPermutation old new
  pub same : (bits : List Bool) → line_map new bits ≡ line_map old bits
  pub depth : depth_of new ≤ depth_of old
  pub toffoli_depth : toffoli_depth_of new ≤ toffoli_depth_of old

-- the same plan with its gates in another order
pub record IsReorderedPlan (old new : LaidView) : Type 0 where
  pub roles : roles_of new ≡ roles_of old
  pub lines : new.circuit.lines ≡ old.circuit.lines
  pub gates : AreReordered old.circuit.gates new.circuit.gates

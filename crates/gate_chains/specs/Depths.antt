-- The depths of gates that are joined, reversed and undone, by any weights.
use Rattle.std.specs.Prelude.{◌≡◌, ℕ, ◌+◌, ◌*◌, ◌≤◌, List, ◌++◌, reverse}
use Rattle.std.specs.List.{AllByRecursion}
use Rattle.mct_circuit.specs.Gates.{GateView}
use Rattle.mct_circuit.specs.Sizes.{depth_by}

-- no gate weighs anything
abbrev pub AreWeightless : (GateView → ℕ) → List GateView → Type 0
AreWeightless weigh gates = AllByRecursion (λ (gate : GateView). weigh gate ≡ 0) gates

pub record HasBoundedDepths (weigh : GateView → ℕ) : Type 0 where
  pub joined : (xs ys : List GateView)
      → depth_by weigh (xs ++ ys) ≤ depth_by weigh xs + depth_by weigh ys
  pub reversed : (gates : List GateView) → depth_by weigh (reverse gates) ≡ depth_by weigh gates
  pub weightless : (gates : List GateView) → AreWeightless weigh gates → depth_by weigh gates ≡ 0
  pub undone : (gates between : List GateView) → AreWeightless weigh between
      → depth_by weigh (gates ++ (between ++ reverse gates)) ≤ 2 * depth_by weigh gates

-- The law of depths.
abbrev pub DepthsAreBounded : Type 0
DepthsAreBounded = (weigh : GateView → ℕ) → HasBoundedDepths weigh

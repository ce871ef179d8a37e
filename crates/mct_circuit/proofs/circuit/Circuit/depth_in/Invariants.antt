use Rattle.std.proofs.Common.{◌≡◌, ℕ, [], ◌∷◌, get_or, length, reverse, take}
use Rattle.mct_circuit.specs.Sizes.{greatest_depth}
use Rattle.mct_circuit.specs.inside.Counting.{weight_for}
use Rattle.mct_circuit.proofs.DepthLemmas.{depth_on}
use Rattle.mct_circuit.proofs.circuit.Circuit.depth_in.Given as goal

abbrev pub invariant-loop-gate : goal.invariant-loop-gate
invariant-loop-gate l =
    ((line : ℕ) → get_or l.depths.items line 0 ≡ depth_on (weight_for l.counting) (line ∷ []) (reverse (take l.gate-index l.gate-items)))
    × (l.greatest ≡ greatest_depth (weight_for l.counting) (reverse (take l.gate-index l.gate-items))) × (length l.depths.items ≡ l.self.lines)

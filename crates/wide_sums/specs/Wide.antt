-- Definitions of nodes by sums, and sums that are 0 wherever they hold.
use Rattle.std.specs.Prelude.{◌≡◌, ℕ, Bool, false, List, Some, slice_get}
use Rattle.std.specs.Bool.{xor}
use Rattle.dependency_graph.specs.declared.node.Base.{Base}
use Rattle.dependency_graph.specs.declared.node.Base.TheVariants as bases
use Rattle.bit_sums.specs.Sums.{SumView, sum_value}

-- the sum of two has both values
pub record IsAdded (s t sum : SumView) : Type 0 where
  pub values : (bit : Base → Bool) → sum_value bit sum ≡ xor (sum_value bit s) (sum_value bit t)

-- each node that has a definition has the value of that
pub record Holds (definitions : List SumView) (bit : Base → Bool) : Type 0 where
  pub each : (k : ℕ) (s : SumView) → slice_get definitions k ≡ Some s
      → bit (bases.Node k) ≡ sum_value bit s

-- a sum that is 0 wherever the definitions hold
pub record Vanishes (definitions : List SumView) (s : SumView) : Type 0 where
  pub values : (bit : Base → Bool) → Holds definitions bit → sum_value bit s ≡ false

-- Products that go out of a list or come in.
use Rattle.std.specs.Prelude.{◌≡◌, Bool, List}
use Rattle.std.specs.Bool.{xor}
use Rattle.dependency_graph.specs.declared.node.Base.{Base}
use Rattle.bit_sums.specs.Sums.{ProductView, product_value, xor_by}

-- the sum of the products of two lists
pub record IsToggled (others old new : List ProductView) : Type 0 where
  pub values : (bit : Base → Bool) → xor_by (product_value bit) new
      ≡ xor (xor_by (product_value bit) old) (xor_by (product_value bit) others)

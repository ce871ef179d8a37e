-- How a product is put into a sum, step by step.
use Rattle.std.specs.Prelude.{◌≡◌, ◌⊎◌, ◌+◌, ◌*◌, ◌≤◌, Bool, List, ◌++◌, length, Option}
use Rattle.std.specs.Bool.{xor}
use Rattle.std.specs.Option.{option_to_list}
use Rattle.std.specs.List.{AllByRecursion}
use Rattle.dependency_graph.specs.declared.node.Base.{Base}
use Rattle.bit_sums.specs.Sums.{ProductView, SumView, IsProductOver, IsSumOver, product_value, sum_value, weight_of, xor_by}

-- a product is put into a sum, and what is still to be put; that the sum lost a product for it
pub record IsPutOnce (old : SumView) (product : ProductView) (new : SumView)
    (next : Option ProductView) : Type 0 where
  pub values : (bit : Base → Bool)
      → xor (sum_value bit new) (xor_by (product_value bit) (option_to_list next))
      ≡ xor (sum_value bit old) (product_value bit product)
  pub over : (test : Base → Bool) → IsSumOver test old → IsProductOver test product
      → IsSumOver test new
  pub next_over : (test : Base → Bool) → IsSumOver test old → IsProductOver test product
      → AllByRecursion (IsProductOver test) (option_to_list next)
  pub few : length new.products + length (option_to_list next) ≤ length old.products + 1
  pub fewer : length new.products + length (option_to_list next) + length (option_to_list next)
      ≤ length old.products + 1
  pub light : weight_of new + 21 * length (option_to_list next) ≤ weight_of old + 21

-- products are put into a sum, one after another
pub record ArePut (old : SumView) (products : List ProductView) (new : SumView) : Type 0 where
  pub values : (bit : Base → Bool) → sum_value bit new
      ≡ xor (sum_value bit old) (xor_by (product_value bit) products)
  pub over : (test : Base → Bool) → IsSumOver test old
      → AllByRecursion (IsProductOver test) products → IsSumOver test new
  pub few : length new.products ≤ length old.products + length products
  pub light : weight_of new ≤ weight_of old + 21 * length products

-- a sum with more bits, and with the constant turned or not
pub record WithBits (old : SumView) (more : List Base) (one : Bool) (new : SumView) : Type 0 where
  pub bits : (new.bits ≡ old.bits ++ more) ⊎ (new.bits ≡ more ++ old.bits)
  pub products : new.products ≡ old.products
  pub constant : new.one ≡ xor old.one one

-- What sums give that grow: sums of two, products of two, and a product put into a sum.
use Rattle.std.specs.Prelude.{◌≡◌, ◌⊎◌, ◌+◌, ◌<◌, ◌≤◌, Bool, ◌&&◌, List, [], length, Option, Some, None}
use Rattle.std.specs.Bool.{xor}
use Rattle.dependency_graph.specs.declared.node.Base.{Base}
use Rattle.bit_sums.specs.Bits.{AreRising}
use Rattle.bit_sums.specs.Products.{HasFewBits}
use Rattle.bit_sums.specs.Sums.{ProductView, SumView, AreAll, IsSumOver, IsProductOver, product_value, sum_value, weight_of, xor_by}
use Rattle.bit_sums.specs.declared.limits.TheConstants.{MOST_FACTOR_BITS}

-- a factor: the sum of a set of few bits, and of the constant 1 where it has that
pub record FactorView : Type 0 where
  pub bits : List Base
  pub one : Bool

abbrev pub factor_value : (Base → Bool) → FactorView → Bool
factor_value bit f = xor f.one (xor_by bit f.bits)

-- What a factor keeps: its bits rise, and are few.
pub record IsShort (f : FactorView) : Type 0 where
  pub rises : AreRising f.bits
  pub few : length f.bits ≤ MOST_FACTOR_BITS

-- a factor as a sum without products
abbrev pub sum_of_factor : FactorView → SumView
sum_of_factor f = record { bits = f.bits; products = []; one = f.one }

-- The sum with a product put into it has both values, of no other bases, with at most one product
-- more.
pub record IsPut (old : SumView) (product : ProductView) (new : SumView) : Type 0 where
  pub values : (bit : Base → Bool) → sum_value bit new
      ≡ xor (sum_value bit old) (product_value bit product)
  pub over : (test : Base → Bool) → IsSumOver test old → IsProductOver test product
      → IsSumOver test new
  pub few : length new.products ≤ length old.products + 1
  pub light : weight_of new ≤ weight_of old + 21

-- The sum of two has both values, of no other bases, with no more products and no more weight than
-- both.
pub record IsSumOf (a b sum : SumView) : Type 0 where
  pub values : (bit : Base → Bool) → sum_value bit sum ≡ xor (sum_value bit a) (sum_value bit b)
  pub over : (test : Base → Bool) → IsSumOver test a → IsSumOver test b → IsSumOver test sum
  pub few : length sum.products ≤ length a.products + length b.products
  pub light : weight_of sum ≤ weight_of a + weight_of b

-- The product of two factors has the values of their conjunction, of no other bases, with at most
-- one product.
pub record IsTimes (a b : FactorView) (sum : SumView) : Type 0 where
  pub values : (bit : Base → Bool) → sum_value bit sum ≡ (factor_value bit a && factor_value bit b)
  pub over : (test : Base → Bool) → AreAll test a.bits → AreAll test b.bits → IsSumOver test sum
  pub few : length sum.products ≤ 1
  pub light : weight_of sum ≤ 29

-- A finished sum has the value of the one that grew, of no other bases, with as many products, each
-- of factors of few bits; its bits rise.
pub record IsFinished (grown sum : SumView) : Type 0 where
  pub values : (bit : Base → Bool) → sum_value bit sum ≡ sum_value bit grown
  pub over : (test : Base → Bool) → IsSumOver test grown → IsSumOver test sum
  pub rises : AreRising sum.bits
  pub few : length sum.products ≡ length grown.products
  pub light : weight_of sum ≤ weight_of grown
  pub one : sum.one ≡ grown.one
  pub few_bits : HasFewBits sum

-- the sum as a factor; none exactly where it has a product or too many bits
abbrev pub IsFactorOrLong : SumView → Option FactorView → Type 0
IsFactorOrLong sum None = (1 ≤ length sum.products) ⊎ (MOST_FACTOR_BITS < length sum.bits)
IsFactorOrLong sum (Some factor) = IsShort factor × (sum ≡ sum_of_factor factor)

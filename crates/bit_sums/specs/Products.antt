-- Products of two sums of bits, and sums of bits with at most one product.
use Rattle.std.specs.Prelude.{◌≡◌, ◌+◌, ◌≤◌, Bool, ◌&&◌, List, length, Option, IfSome}
use Rattle.std.specs.Bool.{xor}
use Rattle.std.specs.List.{AllByRecursion}
use Rattle.std.specs.Option.{option_to_list}
use Rattle.dependency_graph.specs.declared.node.Base.{Base}
use Rattle.bit_sums.specs.Bits.{AreRising, HasOwn, apart}
use Rattle.bit_sums.specs.Sums.{ProductView, SumView, AreAll, IsProductOver, product_value, xor_by}
use Rattle.bit_sums.specs.declared.limits.TheConstants.{MOST_FACTOR_BITS}

-- a factor of a product: a set of few bits
pub record IsFactor (bits : List Base) : Type 0 where
  pub rises : AreRising bits
  pub few : length bits ≤ MOST_FACTOR_BITS

-- What a product keeps: each of its factors has a bit that the other lacks.
pub record IsProduct (p : ProductView) : Type 0 where
  pub first : IsFactor p.first
  pub second : IsFactor p.second
  pub own : HasOwn p.first p.second
  pub other : HasOwn p.second p.first

-- the products of a sum are of factors of few bits, each with a bit of its own
abbrev pub HasFewBits : SumView → Type 0
HasFewBits sum = AllByRecursion IsProduct sum.products

-- ---- some bits, and at most one product

abbrev pub part_value : (Base → Bool) → List Base → Option ProductView → Bool
part_value bit bits product = xor (xor_by bit bits)
    (xor_by (product_value bit) (option_to_list product))

-- bits and a product that are the product of two sums of bits
pub record IsProductOf (a b bits : List Base) (product : Option ProductView) : Type 0 where
  pub values : (bit : Base → Bool) → part_value bit bits product ≡ (xor_by bit a && xor_by bit b)
  pub few : length bits ≤ MOST_FACTOR_BITS
  pub light : length (apart a b) + length bits ≤ length a + length b
  pub bits_over : (test : Base → Bool) → AreAll test a → AreAll test b → AreAll test bits
  pub product_over : (test : Base → Bool) → AreAll test a → AreAll test b
      → IfSome product (IsProductOver test)

-- bits and a product that are the sum of two products
pub record IsJoinOf (p q : ProductView) (bits : List Base) (product : Option ProductView)
    : Type 0 where
  pub values : (bit : Base → Bool) → part_value bit bits product
      ≡ xor (product_value bit p) (product_value bit q)
  pub few : length bits ≤ MOST_FACTOR_BITS + MOST_FACTOR_BITS
  pub bits_over : (test : Base → Bool) → IsProductOver test p → IsProductOver test q
      → AreAll test bits
  pub product_over : (test : Base → Bool) → IsProductOver test p → IsProductOver test q
      → IfSome product (IsProductOver test)

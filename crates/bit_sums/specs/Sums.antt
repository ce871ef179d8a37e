-- Exclusive sums of a constant, of bits, and of products of two sums of bits. A bit is an input or
-- a node of a graph.
use Rattle.std.specs.Prelude.{◌≡◌, ℕ, ◌+◌, ◌*◌, Bool, true, false, ◌&&◌, List, [], ◌∷◌, ◌++◌, length}
use Rattle.std.specs.Bool.{xor}
use Rattle.std.specs.List.{AllByRecursion, flat_map}
use Rattle.dependency_graph.specs.declared.node.Base.{Base}

-- the exclusive sum of what a test gives of each element
abbrev pub xor_by : {A : Type 0} → (A → Bool) → List A → Bool
xor_by test [] = false
xor_by test (x ∷ xs) = xor (test x) (xor_by test xs)

-- the product of two sums of bits
pub record ProductView : Type 0 where
  pub first : List Base
  pub second : List Base

-- the sum of some bits, of some products, and of the constant 1 where it has that
pub record SumView : Type 0 where
  pub bits : List Base
  pub products : List ProductView
  pub one : Bool

-- ---- values, where each base has a bit

abbrev pub product_value : (Base → Bool) → ProductView → Bool
product_value bit p = xor_by bit p.first && xor_by bit p.second

abbrev pub sum_value : (Base → Bool) → SumView → Bool
sum_value bit s = xor s.one (xor (xor_by bit s.bits) (xor_by (product_value bit) s.products))

-- ---- of what bases a sum is

abbrev pub product_bases : ProductView → List Base
product_bases p = p.first ++ p.second

-- its bits, and the bases of its products
abbrev pub bases_of : SumView → List Base
bases_of s = s.bits ++ flat_map product_bases s.products

-- the test holds of each
abbrev pub AreAll : (Base → Bool) → List Base → Type 0
AreAll test bits = AllByRecursion (λ b. test b ≡ true) bits

-- the test holds of all bases of a product
pub record IsProductOver (test : Base → Bool) (p : ProductView) : Type 0 where
  pub first : AreAll test p.first
  pub second : AreAll test p.second

-- the test holds of all bases of a sum
pub record IsSumOver (test : Base → Bool) (s : SumView) : Type 0 where
  pub bits : AreAll test s.bits
  pub products : AllByRecursion (IsProductOver test) s.products

-- ---- what a sum costs

-- A bit weighs 1 and a product 21, at least as much as all gates that the two are ever toggled by.
abbrev pub weight_of : SumView → ℕ
weight_of s = length s.bits + 21 * length s.products

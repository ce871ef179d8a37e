-- A step of going through two sets side by side.
use Rattle.std.specs.Prelude.{◌≡◌, ◌+◌, ◌≤◌, Bool, ◌&&◌, List, [], ◌∷◌, ◌++◌, length, Option, IfSome}
use Rattle.std.specs.Bool.{xor}
use Rattle.std.specs.Option.{option_to_list}
use Rattle.list_facts.specs.Lists.{IsAmong}
use Rattle.std.specs.declared.cmp.Ordering.{Ordering}
use Rattle.revs_tape.specs.inside.Aligned.{by_order}
use Rattle.dependency_graph.specs.declared.node.Base.{Base}
use Rattle.bit_sums.specs.Bits.{AreRising, apart}
use Rattle.bit_sums.specs.Products.{IsProductOf, part_value}
use Rattle.bit_sums.specs.Sums.{ProductView, AreAll, IsProductOver, product_value, xor_by}
use Rattle.bit_sums.specs.declared.limits.TheConstants.{MOST_FACTOR_BITS}
use Rattle.bit_sums.specs.inside.Joins.{HasFactors, IsShared}

-- the lesser of two elements, and none of them where they tie
abbrev pub lesser : {A : Type 0} → A → A → Ordering → List A
lesser x y order = by_order order (x ∷ []) [] (y ∷ [])

-- a set with the value of a list of bits, whatever they are, and of no others
pub record IsRisingOf (bits rising : List Base) : Type 0 where
  pub rises : AreRising rising
  pub values : (bit : Base → Bool) → xor_by bit rising ≡ xor_by bit bits
  pub over : (test : Base → Bool) → AreAll test bits → AreAll test rising
  pub few : length rising ≤ length bits

-- no bit stands in both lists
pub record AreApart (a b : List Base) : Type 0 where
  pub each : (base : Base) → IsAmong base a → IsAmong base b → ⊥

-- bits and a product that are the product of a set and of one that has these bits besides
pub record IsWithin (lesser rest found : List Base) (product : Option ProductView) : Type 0 where
  pub bits : found ≡ lesser
  pub values : (bit : Base → Bool) → xor_by (product_value bit) (option_to_list product)
      ≡ (xor_by bit lesser && xor_by bit rest)
  pub over : (test : Base → Bool) → AreAll test lesser → AreAll test rest
      → IfSome product (IsProductOver test)

-- bits and a product that are `a c + b c`
pub record IsFactored (a b c bits : List Base) (product : Option ProductView) : Type 0 where
  pub values : (bit : Base → Bool) → part_value bit bits product
      ≡ xor (xor_by bit a && xor_by bit c) (xor_by bit b && xor_by bit c)
  pub few : length bits ≤ MOST_FACTOR_BITS
  pub bits_over : (test : Base → Bool) → AreAll test a → AreAll test b → AreAll test c
      → AreAll test bits
  pub product_over : (test : Base → Bool) → AreAll test a → AreAll test b → AreAll test c
      → IfSome product (IsProductOver test)
  pub short : length (apart a b) ≤ MOST_FACTOR_BITS
  pub made : IsProductOf (apart a b) c bits product

-- bits and a product that are the sum of q and of the product of these two factors
abbrev pub JoinsFactors : List Base → List Base → ProductView → List Base → Option ProductView
    → Type 0
JoinsFactors a c q bits product =
    (p : ProductView) → HasFactors a c p → IsShared p q bits product

-- bits and a product that are `a b + c (a + b)`
pub record IsCrossed (a b c bits : List Base) (product : Option ProductView) : Type 0 where
  pub values : (bit : Base → Bool) → part_value bit bits product
      ≡ xor (xor_by bit a && xor_by bit b) (xor_by bit c && xor (xor_by bit a) (xor_by bit b))
  pub few : length bits ≤ MOST_FACTOR_BITS + MOST_FACTOR_BITS
  pub bits_over : (test : Base → Bool) → AreAll test a → AreAll test b → AreAll test c
      → AreAll test bits
  pub product_over : (test : Base → Bool) → AreAll test a → AreAll test b → AreAll test c
      → IfSome product (IsProductOver test)
  pub left : length (apart a c) ≤ MOST_FACTOR_BITS
  pub right : length (apart b c) ≤ MOST_FACTOR_BITS
  pub rest : List Base
  pub parts : bits ≡ rest ++ c
  pub made : IsProductOf (apart a c) (apart b c) rest product

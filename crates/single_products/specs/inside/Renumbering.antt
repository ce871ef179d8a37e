-- Sums whose nodes stand at other places, among nodes that grow.
use Rattle.std.specs.Prelude.{◌≡◌, ℕ, ◌+◌, ◌≤◌, Bool, true, false, List, [], ◌∷◌, ◌++◌, length, nat_lt, slice_index_or, take}
use Rattle.std.specs.List.{AllByRecursion}
use Rattle.list_facts.specs.Bits.{bit_of}
use Rattle.dependency_graph.specs.declared.node.Base.{Base}
use Rattle.dependency_graph.specs.declared.node.Base.TheVariants as bases
use Rattle.dependency_graph.specs.Graphs.{base_bit}
use Rattle.bit_sums.specs.Bits.{AreRising}
use Rattle.bit_sums.specs.Growing.{FactorView, factor_value}
use Rattle.bit_sums.specs.Sums.{ProductView, SumView, AreAll, IsSumOver, sum_value, xor_by}
use Rattle.sum_graph.specs.Graphs.{AreKnownSums, HasFewBits, IsKnownSum, is_known, products_in, sum_on, sums_made}
use Rattle.single_products.specs.Singles.{HasOneProduct}

-- ---- bases

-- a base, where the k-th node stands at the k-th of some places
abbrev pub renumbered : List ℕ → Base → Base
renumbered places (bases.Input i) = bases.Input i
renumbered places (bases.Node k) = bases.Node (slice_index_or places k 0)

-- what is read of a base is read of the one at its place
abbrev pub at_places : List ℕ → (Base → Bool) → Base → Bool
at_places places bit base = bit (renumbered places base)

-- an input, or a node that has a place
abbrev pub has_place : List ℕ → Base → Bool
has_place places (bases.Input i) = true
has_place places (bases.Node k) = nat_lt k (length places)

-- the bit of a base on an input, with the bits of these nodes
abbrev pub bit_on : List SumView → List Bool → Base → Bool
bit_on nodes input base = base_bit (bit_of input) (sums_made (bit_of input) [] nodes) base

-- ---- parts of sums

-- a product as a sum
abbrev pub product_sum : ProductView → SumView
product_sum p = record { bits = []; products = p ∷ []; one = false }

-- a sum with the first k of its products
abbrev pub with_first : ℕ → SumView → SumView
with_first k s = record { bits = s.bits; products = take k s.products; one = s.one }

-- ---- sums over the places

-- a set of bits with the value of these at their places
pub record IsRenumberedSet (places : List ℕ) (bits set : List Base) : Type 0 where
  pub rises : AreRising set
  pub values : (bit : Base → Bool) → xor_by bit set ≡ xor_by (at_places places bit) bits
  pub over : (test : Base → Bool) → AreAll (at_places places test) bits → AreAll test set
  pub few : length set ≤ length bits

-- a factor with the value of these bits at their places
pub record IsRenumberedFactor (places : List ℕ) (bits : List Base) (factor : FactorView)
    : Type 0 where
  pub values : (bit : Base → Bool)
      → factor_value bit factor ≡ xor_by (at_places places bit) bits
  pub over : (test : Base → Bool) → AreAll (at_places places test) bits → AreAll test factor.bits

-- a sum with the value of another one whose bases stand at their places, with no more products
pub record IsRenumbered (places : List ℕ) (s sum : SumView) : Type 0 where
  pub values : (bit : Base → Bool) → sum_value bit sum ≡ sum_value (at_places places bit) s
  pub over : (test : Base → Bool) → IsSumOver (at_places places test) s → IsSumOver test sum
  pub few : length sum.products ≤ length s.products

-- The same, where products of it became nodes, each with one product at most: no more products in
-- all, and no more nodes more than it has products.
pub record IsRebuilt (places : List ℕ) (s : SumView) (old new : List SumView) (sum : SumView)
    : Type 0 where
  pub more : List SumView
  pub grown : new ≡ old ++ more
  pub few : length new ≤ length old + length s.products
  pub products : products_in new + length sum.products ≤ products_in old + length s.products
  pub single : AllByRecursion HasOneProduct old → AllByRecursion HasOneProduct new
  pub few_bits : AllByRecursion HasFewBits old → AllByRecursion HasFewBits new
  pub known : (n : ℕ) → AreKnownSums n 0 old
      → IsSumOver (at_places places (is_known n (length old))) s → AreKnownSums n 0 new
  pub over : (n : ℕ) → AreKnownSums n 0 old
      → IsSumOver (at_places places (is_known n (length old))) s → IsKnownSum n (length new) sum
  pub values : (n : ℕ) → AreKnownSums n 0 old
      → IsSumOver (at_places places (is_known n (length old))) s → (input : List Bool)
      → sum_on new input sum ≡ sum_value (at_places places (bit_on old input)) s

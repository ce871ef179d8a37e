-- Sums of nodes that stand at places among written nodes, which may grow.
use Rattle.std.specs.Prelude.{◌≡◌, ℕ, ◌+◌, ◌<◌, ◌≤◌, Bool, false, List, [], ◌∷◌, ◌++◌, length, Option, None, Some, slice_get}
use Rattle.std.specs.Bool.{xor}
use Rattle.std.specs.List.{AllByRecursion}
use Rattle.list_facts.specs.Bits.{bit_of}
use Rattle.list_facts.specs.Lists.{AllFrom}
use Rattle.revs_tape.specs.declared.limits.TheConstants.{MOST_WRITES}
use Rattle.dependency_graph.specs.declared.node.Base.{Base}
use Rattle.dependency_graph.specs.declared.node.Base.TheVariants as bases
use Rattle.dependency_graph.specs.Graphs.{base_bit}
use Rattle.bit_sums.specs.Growing.{FactorView, factor_value}
use Rattle.bit_sums.specs.Sums.{ProductView, SumView, AreAll, sum_value, xor_by}
use Rattle.sum_graph.specs.Graphs.{AreKnownSums, IsKnownSum, is_known, sum_on, sums_made}
use Rattle.wide_sums.specs.Wide.{Holds}
use Rattle.few_products.specs.declared.placing.Place.{Place}
use Rattle.few_products.specs.declared.placing.Written.{Written}

-- ---- parts of sums

-- a constant and bits
abbrev pub only_bits : List Base → Bool → SumView
only_bits bits one = record { bits = bits; products = []; one = one }

-- a product as a sum
abbrev pub product_sum : ProductView → SumView
product_sum p = record { bits = []; products = p ∷ []; one = false }

-- ---- places

-- the bit of a base on an input, with the bits of these nodes
abbrev pub bit_on : List SumView → List Bool → Base → Bool
bit_on nodes input base = base_bit (bit_of input) (sums_made (bit_of input) [] nodes) base

-- nodes are sums of inputs and earlier ones, and places are among them
pub record ArePlaces (n : ℕ) (places : List (Option Place)) (nodes : List SumView) : Type 0 where
  pub known : AreKnownSums n 0 nodes
  pub within : (k : ℕ) (place : Place) → slice_get places k ≡ Some (Some place)
      → place.node < length nodes

-- bits of bases that are, on an input, those of the nodes at their places
pub record Agree (places : List (Option Place)) (nodes : List SumView) (input : List Bool)
    (bit : Base → Bool) : Type 0 where
  pub inputs : (i : ℕ) → bit (bases.Input i) ≡ bit_of input i
  pub nodes_agree : (k : ℕ) (place : Place) → slice_get places k ≡ Some (Some place)
      → bit (bases.Node k) ≡ xor place.negated (bit_on nodes input (bases.Node place.node))

-- ---- sums at places

-- a sum over places with the value of another one
pub record StandsFor (n : ℕ) (places : List (Option Place)) (s sum : SumView) : Type 0 where
  pub known : (nodes : List SumView) → ArePlaces n places nodes → IsKnownSum n (length nodes) sum
  pub values : (nodes : List SumView) (input : List Bool) (bit : Base → Bool)
      → Agree places nodes input bit → sum_on nodes input sum ≡ sum_value bit s

-- a node as a sum at its place
pub record IsAtPlace (places : List (Option Place)) (k : ℕ) (sum : SumView) : Type 0 where
  pub place : Place
  pub found : slice_get places k ≡ Some (Some place)
  pub is : sum ≡ record { bits = bases.Node place.node ∷ []; products = []; one = place.negated }

-- the same, where nodes grew for it
pub record IsWritten (n : ℕ) (places : List (Option Place)) (s : SumView) (old new : List SumView)
    (sum : SumView) : Type 0 where
  pub more : List SumView
  pub grown : new ≡ old ++ more
  pub still : ArePlaces n places new
  pub few : length old ≤ MOST_WRITES → length new ≤ MOST_WRITES
  pub known : IsKnownSum n (length new) sum
  pub values : (input : List Bool) (bit : Base → Bool) → Agree places old input bit
      → sum_on new input sum ≡ sum_value bit s

-- a factor with the value of these bits, where nodes grew for it
pub record IsFactorAt (n : ℕ) (places : List (Option Place)) (bits : List Base)
    (old new : List SumView) (factor : FactorView) : Type 0 where
  pub more : List SumView
  pub grown : new ≡ old ++ more
  pub still : ArePlaces n places new
  pub few : length old ≤ MOST_WRITES → length new ≤ MOST_WRITES
  pub known : AreAll (is_known n (length new)) factor.bits
  pub values : (input : List Bool) (bit : Base → Bool) → Agree places old input bit
      → factor_value (bit_on new input) factor ≡ xor_by bit bits

-- so many nodes, none of which has a place
pub record HaveNoPlace (count : ℕ) (places : List (Option Place)) : Type 0 where
  pub long : length places ≡ count
  pub none : AllByRecursion (λ (place : Option Place). place ≡ None) places

-- ---- the whole

-- bits of bases on an input: they are those of the inputs, and the definitions hold
pub record IsValuation (definitions : List SumView) (input : List Bool) (bit : Base → Bool)
    : Type 0 where
  pub inputs : (i : ℕ) → bit (bases.Input i) ≡ bit_of input i
  pub holds : Holds definitions bit

-- nodes of these definitions stand at places among few nodes, or at none
pub record AreWritten (n : ℕ) (definitions : List SumView) (places : List (Option Place))
    (nodes : List SumView) : Type 0 where
  pub long : length places ≡ length definitions
  pub standing : ArePlaces n places nodes
  pub few : length nodes ≤ MOST_WRITES
  pub agree : (input : List Bool) (bit : Base → Bool) → IsValuation definitions input bit
      → Agree places nodes input bit

-- a node's place among nodes that grew: it has the value of a sum, or the negation of that
pub record IsPlaceOf (n : ℕ) (places : List (Option Place)) (s : SumView)
    (old new : List SumView) (place : Place) : Type 0 where
  pub more : List SumView
  pub grown : new ≡ old ++ more
  pub known : AreKnownSums n 0 new
  pub within : place.node < length new
  pub few : length new ≤ MOST_WRITES
  pub values : (input : List Bool) (bit : Base → Bool) → Agree places old input bit
      → xor place.negated (bit_on new input (bases.Node place.node)) ≡ sum_value bit s

-- ---- outputs

-- a sum with the value of a node wherever the definitions hold
pub record IsNamed (definitions : List SumView) (k : ℕ) (sum : SumView) : Type 0 where
  pub values : (bit : Base → Bool) → Holds definitions bit → sum_value bit sum ≡ bit (bases.Node k)

-- the sum of a node as an output, where nodes grew for it
pub record IsOutput (n : ℕ) (definitions : List SumView) (places : List (Option Place)) (k : ℕ)
    (old new : List SumView) (sum : SumView) : Type 0 where
  pub more : List SumView
  pub grown : new ≡ old ++ more
  pub still : ArePlaces n places new
  pub few : length old ≤ MOST_WRITES → length new ≤ MOST_WRITES
  pub known : IsKnownSum n (length new) sum
  pub values : (input : List Bool) (bit : Base → Bool) → Agree places old input bit
      → Holds definitions bit → sum_on new input sum ≡ bit (bases.Node k)

-- sums have the values of so many nodes from the k-th on
pub record IsWhole (n : ℕ) (definitions : List SumView) (k count : ℕ)
    (nodes sums : List SumView) : Type 0 where
  pub known : AreKnownSums n 0 nodes
  pub few : length nodes ≤ MOST_WRITES
  pub long : length sums ≡ count
  pub each : AllByRecursion (IsKnownSum n (length nodes)) sums
  pub values : (input : List Bool) (bit : Base → Bool) → IsValuation definitions input bit
      → AllFrom (λ j sum. sum_on nodes input sum ≡ bit (bases.Node (k + j))) 0 sums

-- ---- what was written

-- nodes may have come, and nothing else has changed
pub record Keeps (old new : Written) : Type 0 where
  pub inputs : new.inputs ≡ old.inputs
  pub places : new.places.items ≡ old.places.items

abbrev pub IsReady : Written → Type 0
IsReady w = ArePlaces w.inputs w.places.items w.nodes.keys

abbrev pub HasWritten : List SumView → Written → Type 0
HasWritten definitions w = AreWritten w.inputs definitions w.places.items w.nodes.keys

-- a sum, a factor, a node or an output, before and behind the nodes that came for it
abbrev pub IsWrittenSum : SumView → Written → Written → SumView → Type 0
IsWrittenSum s old new sum =
    Keeps old new × IsWritten old.inputs old.places.items s old.nodes.keys new.nodes.keys sum

abbrev pub IsWrittenFactor : List Base → Written → Written → FactorView → Type 0
IsWrittenFactor bits old new factor =
    Keeps old new
    × IsFactorAt old.inputs old.places.items bits old.nodes.keys new.nodes.keys factor

abbrev pub IsWrittenNode : SumView → Written → Written → Place → Type 0
IsWrittenNode s old new place =
    Keeps old new × IsPlaceOf old.inputs old.places.items s old.nodes.keys new.nodes.keys place

abbrev pub IsWrittenOutput : List SumView → ℕ → Written → Written → SumView → Type 0
IsWrittenOutput definitions k old new sum =
    Keeps old new
    × IsOutput old.inputs definitions old.places.items k old.nodes.keys new.nodes.keys sum

-- The walk over a settled graph: where the sum of each node stands, and which uses of nodes are
-- still to come.
use Rattle.std.specs.Prelude.{◌≡◌, ◌≢◌, ◌⊎◌, ℕ, ◌+◌, ◌*◌, ◌<◌, ◌≤◌, Bool, true, false, not, List, [], ◌∷◌, length, drop, map, take}
use Rattle.std.specs.Prelude.{Some, slice_get, slice_index_or, slice_set, ⊤}
use Rattle.std.specs.List.{AllByRecursion, flat_map, sum_by}
use Rattle.dependency_graph.specs.declared.node.Base.{Base}
use Rattle.dependency_graph.specs.declared.node.Base.TheVariants as bases
use Rattle.dependency_graph.specs.declared.node.Node.{Node}
use Rattle.dependency_graph.specs.declared.node.Node.TheVariants.{Not, Xor, And}
use Rattle.dependency_graph.specs.declared.node.Sig.{Sig}
use Rattle.dependency_graph.specs.declared.node.Sig.TheVariants.{Const, Is}
use Rattle.dependency_graph.specs.Graphs.{and_count, base_of, nodes_among}
use Rattle.claim_check.specs.Settled.{IsSettled, SettledView, settled_value}
use Rattle.bit_sums.specs.Growing.{FactorView, IsFinished, IsShort, IsSumOf, IsTimes, sum_of_factor}
use Rattle.bit_sums.specs.Sums.{SumView, weight_of}
use Rattle.sum_graph.specs.Graphs.{AreKnownSums, HasFewBits, HasNoConstant, IsKnownSum, bit_sum, products_in, sum_on, weight_in}
use Rattle.sum_graph.specs.Lone.{GoToOneOutput, ands_beside, beside, sum_from, times_in, uses_in}
use Rattle.sum_graph.specs.declared.slot.Slot.{Slot}
use Rattle.sum_graph.specs.declared.slot.Slot.TheVariants as slots

-- ---- uses

-- the operands that are factors
abbrev pub factors_of : Node → List ℕ
factors_of (Not a) = []
factors_of (Xor a b) = []
factors_of (And a b) = nodes_among (a ∷ b ∷ [])

-- whether a node is shared; what is no node counts as shared
abbrev pub is_shared : List Bool → ℕ → Bool
is_shared shared k = slice_index_or shared k true

-- no node of a set is a factor
abbrev pub AreNoFactors : (ℕ → Bool) → List Node → Type 0
AreNoFactors lone nodes = AllByRecursion (λ k. lone k ≡ false) (flat_map factors_of nodes)

-- A node that is not shared is used once at most, and is no factor; and each such node is not
-- shared.
pub record AreShared (nodes : List Node) (outputs : List Sig) (shared : List Bool) : Type 0 where
  pub long : length shared ≡ length nodes
  pub once : (k : ℕ) → is_shared shared k ≡ false → times_in k (uses_in nodes outputs) ≤ 1
  pub factors : AllByRecursion
      (λ node. AllByRecursion (λ k. is_shared shared k ≡ true) (factors_of node)) nodes
  pub only : (lone : ℕ → Bool) → AreNoFactors lone nodes → (k : ℕ) → k < length nodes
      → lone k ≡ true → times_in k (uses_in nodes outputs) ≤ 1 → is_shared shared k ≡ false

-- ---- slots

-- the sum has the value of a base of the settled graph, over these nodes
pub record StandsFor (s : SettledView) (nodes : List SumView) (base : Base) (sum : SumView)
    : Type 0 where
  pub known : IsKnownSum s.inputs (length nodes) sum
  pub values : (input : List Bool) → sum_on nodes input sum ≡ settled_value s input (Is base)

-- a sum that was moved is not used any more; one that stands is a factor exactly where the node is
-- shared
abbrev pub IsSlot : SettledView → List SumView → List Bool → List ℕ → ℕ → Slot → Type 0
IsSlot s nodes shared left k slots.Moved = times_in k left ≡ 0
IsSlot s nodes shared left k (slots.Sum sum) = StandsFor s nodes (bases.Node k) sum
    × (is_shared shared k ≡ false)
IsSlot s nodes shared left k (slots.Factor factor) =
    StandsFor s nodes (bases.Node k) (sum_of_factor factor) × (is_shared shared k ≡ true)

-- what a slot counts
abbrev pub slot_products : Slot → ℕ
slot_products slots.Moved = 0
slot_products (slots.Sum sum) = length sum.products
slot_products (slots.Factor factor) = 0

abbrev pub slot_weight : Slot → ℕ
slot_weight slots.Moved = 0
slot_weight (slots.Sum sum) = weight_of sum
slot_weight (slots.Factor factor) = 0

-- the products of the slots that are not of a set
abbrev pub products_beside : (ℕ → Bool) → List Slot → ℕ
products_beside lone some = sum_from (λ k slot. beside (lone k) (slot_products slot)) 0 some

-- the slots of the nodes so far, with the uses that are still to come
pub record AreSlots (s : SettledView) (nodes : List SumView) (shared : List Bool) (left : List ℕ)
    (some : List Slot) : Type 0 where
  pub once : (k : ℕ) → is_shared shared k ≡ false → times_in k left ≤ 1
  pub each : (k : ℕ) (slot : Slot) → slice_get some k ≡ Some slot
      → IsSlot s nodes shared left k slot

-- ---- a use

-- the slot of a node stands
pub record IsStandingNode (some : List Slot) (k : ℕ) : Type 0 where
  pub within : k < length some
  pub stands : slice_get some k ≢ Some slots.Moved

abbrev pub IsStanding : List Slot → Base → Type 0
IsStanding some (bases.Input i) = ⊤
IsStanding some (bases.Node k) = IsStandingNode some k

-- a factor is copied, and stays
pub record IsCopied (k : ℕ) (old new : List Slot) (sum : SumView) : Type 0 where
  pub factor : FactorView
  pub found : slice_get old k ≡ Some (slots.Factor factor)
  pub short : IsShort factor
  pub same : new ≡ old
  pub is : sum ≡ sum_of_factor factor

-- a sum is moved out of its slot
pub record IsMovedOut (k : ℕ) (old new : List Slot) (sum : SumView) : Type 0 where
  pub found : slice_get old k ≡ Some (slots.Sum sum)
  pub gone : new ≡ slice_set old k slots.Moved

-- the sum that stands for a base is taken from the slots
abbrev pub IsTaken : Base → List Slot → List Slot → SumView → Type 0
IsTaken (bases.Input i) old new sum = (new ≡ old) × (sum ≡ bit_sum (bases.Input i))
IsTaken (bases.Node k) old new sum = IsCopied k old new sum ⊎ IsMovedOut k old new sum

-- the slot of a base is a factor
abbrev pub HasFactor : List Slot → Base → Type 0
HasFactor some (bases.Input i) = ⊤
HasFactor some (bases.Node k) = (f : FactorView) × (slice_get some k ≡ Some (slots.Factor f))

-- the factor that stands for a base
abbrev pub IsFactorOf : List Slot → Base → FactorView → Type 0
IsFactorOf some (bases.Input i) factor = factor ≡ record { bits = bases.Input i ∷ []; one = false }
IsFactorOf some (bases.Node k) factor = slice_get some k ≡ Some (slots.Factor factor)

-- the operands of a node can be taken
abbrev pub CanSum : List Slot → Node → Type 0
CanSum some (Not a) = IsStanding some a
CanSum some (Xor a b) = IsStanding some a × IsStanding some b × (a ≢ b)
CanSum some (And a b) = HasFactor some a × HasFactor some b

pub record IsNot (a : Base) (old new : List Slot) (sum : SumView) : Type 0 where
  pub operand : SumView
  pub taken : IsTaken a old new operand
  pub is : sum ≡ record operand { one = not operand.one }

pub record IsXor (a b : Base) (old new : List Slot) (sum : SumView) : Type 0 where
  pub left : SumView
  pub right : SumView
  pub between : List Slot
  pub first : IsTaken a old between left
  pub second : IsTaken b between new right
  pub is : IsSumOf left right sum

pub record IsAnd (a b : Base) (old new : List Slot) (sum : SumView) : Type 0 where
  pub left : FactorView
  pub right : FactorView
  pub first : IsFactorOf old a left
  pub second : IsFactorOf old b right
  pub same : new ≡ old
  pub is : IsTimes left right sum

-- the sum of a node is made of the sums that stand for its operands
abbrev pub IsNodeSum : Node → List Slot → List Slot → SumView → Type 0
IsNodeSum (Not a) = IsNot a
IsNodeSum (Xor a b) = IsXor a b
IsNodeSum (And a b) = IsAnd a b

-- ---- the walk

-- What the walk keeps: each node so far has a slot, the nodes of the lean graph are known, and both
-- count no more than the nodes that were walked over, also beside nodes that go to one output
-- alone.
pub record IsWalked (s : SettledView) (shared : List Bool) (some : List Slot) (nodes : List SumView)
    (k : ℕ) : Type 0 where
  pub settled : IsSettled s
  pub long : length some ≡ k
  pub known : AreKnownSums s.inputs 0 nodes
  pub slots : AreSlots s nodes shared (uses_in (drop k s.nodes) s.outputs) some
  pub few : length nodes ≤ k
  pub products : products_in nodes + sum_by slot_products some ≤ sum_by and_count (take k s.nodes)
  pub nodes_beside : (lone : ℕ → Bool) → GoToOneOutput s lone
      → products_in nodes + products_beside lone some ≤ ands_beside lone (take k s.nodes)
  pub light : weight_in nodes + sum_by slot_weight some ≤ 29 * k
  pub no_constants : AllByRecursion HasNoConstant nodes
  pub few_bits : AllByRecursion HasFewBits nodes

-- ---- outputs

abbrev pub CanOutput : List Slot → Sig → Type 0
CanOutput some (Const bit) = ⊤
CanOutput some (Is base) = IsStanding some base

-- a constant as a sum
abbrev pub constant_sum : Bool → SumView
constant_sum bit = record { bits = []; products = []; one = bit }

pub record IsTakenOutput (base : Base) (old new : List Slot) (sum : SumView) : Type 0 where
  pub grown : SumView
  pub taken : IsTaken base old new grown
  pub finished : IsFinished grown sum

-- the sum of an output
abbrev pub IsOutputSum : Sig → List Slot → List Slot → SumView → Type 0
IsOutputSum (Const bit) old new sum = (new ≡ old) × IsFinished (constant_sum bit) sum
IsOutputSum (Is base) old new sum = IsTakenOutput base old new sum

-- What going through the outputs keeps: the sums so far have the values of the outputs so far.
pub record IsEnded (s : SettledView) (shared : List Bool) (some : List Slot) (nodes : List SumView)
    (sums : List SumView) (j : ℕ) : Type 0 where
  pub slots : AreSlots s nodes shared (nodes_among (flat_map base_of (drop j s.outputs))) some
  pub long : length some ≡ length s.nodes
  pub known : AllByRecursion (IsKnownSum s.inputs (length nodes)) sums
  pub values : (input : List Bool) → map (sum_on nodes input) sums
      ≡ map (settled_value s input) (take j s.outputs)
  pub products : products_in nodes + (products_in sums + sum_by slot_products some)
      ≤ sum_by and_count s.nodes
  pub light : weight_in nodes + (weight_in sums + sum_by slot_weight some)
      ≤ 29 * length s.nodes + 4 * j
  pub few_bits : AllByRecursion HasFewBits sums

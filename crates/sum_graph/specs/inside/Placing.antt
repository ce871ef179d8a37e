-- Where the sum of a node is placed: in a slot that is moved from, as a factor, or as a node of the
-- lean graph.
use Rattle.std.specs.Prelude.{◌≡◌, ◌⊎◌, ℕ, Bool, true, false, List, [], ◌∷◌, ◌++◌, Some, slice_get}
use Rattle.dependency_graph.specs.declared.node.Base.TheVariants as bases
use Rattle.bit_sums.specs.Growing.{FactorView, IsFinished, sum_of_factor}
use Rattle.bit_sums.specs.Sums.{SumView}
use Rattle.sum_graph.specs.declared.slot.Slot.{Slot}
use Rattle.sum_graph.specs.declared.slot.Slot.TheVariants as slots

-- a short sum is a factor
pub record IsShortened (sum : SumView) (old new : List SumView) (slot : Slot) : Type 0 where
  pub factor : FactorView
  pub finished : IsFinished sum (sum_of_factor factor)
  pub same : new ≡ old
  pub is : slot ≡ slots.Factor factor

-- a sum is a node of the lean graph, a new one or one that was there, and the slot has that node
pub record IsOnNode (sum : SumView) (old new : List SumView) (slot : Slot) : Type 0 where
  pub whole : SumView
  pub finished : IsFinished sum whole
  pub place : ℕ
  pub grown : (new ≡ old) ⊎ (new ≡ old ++ (record whole { one = false }) ∷ [])
  pub found : slice_get new place ≡ Some (record whole { one = false })
  pub is : slot ≡ slots.Factor (record { bits = bases.Node place ∷ []; one = whole.one })

-- the slot of a sum, of a node that is shared or not
abbrev pub IsPlaced : Bool → SumView → List SumView → List SumView → Slot → Type 0
IsPlaced false sum old new slot = (new ≡ old) × (slot ≡ slots.Sum sum)
IsPlaced true sum old new slot = IsShortened sum old new slot ⊎ IsOnNode sum old new slot

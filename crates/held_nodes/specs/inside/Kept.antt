-- What the fields of a forward part keep.
use Rattle.std.specs.Prelude.{◌≡◌, ℕ, ◌+◌, ◌*◌, ◌/◌, ◌<◌, ◌≤◌, max, not, List, length, Option, Some, None}
use Rattle.held_nodes.specs.inside.Lines as heaps
use Rattle.held_nodes.specs.inside.Lines.{HeapView, contains, IsLineHeap, with_taken, without_line}
use Rattle.bit_sums.specs.Products.{IsProduct}
use Rattle.bit_sums.specs.Sums.{SumView, bases_of}
use Rattle.circuit_plans.specs.declared.plan.PlanFault.{PlanFault}
use Rattle.circuit_plans.specs.declared.plan.PlanFault.TheVariants.{Lines, Gates, Memory}
use Rattle.circuit_plans.specs.declared.plan.TheConstants.{MOST_LINES}
use Rattle.exclusive_sums.specs.declared.cube.Literal.{Literal}
use Rattle.held_nodes.specs.Held.{ForwardView, IsForward, work_lines, held_count, is_taken}
use Rattle.mct_circuit.specs.Gates.{GateView}
use Rattle.mct_circuit.specs.Sizes.{flip_weight}
use Rattle.std.specs.List.{AllByRecursion, count_by}
use Rattle.sum_toggles.specs.Toggles.{AreApart, IsPlacedBase, base_line}

-- gates, and the most that they may weigh together
pub record WeighedView : Type 0 where
  pub gates : List GateView
  pub most : ℕ

-- gates of this weight are too heavy, or memory is wanting for gates that are not
abbrev pub IsWeightFault : ℕ → ℕ → PlanFault → Type 0
IsWeightFault most weight (Lines need) = ⊥
IsWeightFault most weight Gates = most < weight
IsWeightFault most weight (Memory _) = weight ≤ most

-- what the flip of a work line by a cube weighs
abbrev pub cube_weight : List Literal → ℕ
cube_weight cube =
    flip_weight (length cube) + 2 * count_by (λ (literal : Literal). not literal.positive) cube

-- the lines that are out are those on which nodes are held
pub record AreOut (lines : List (Option ℕ)) (heap : HeapView) : Type 0 where
  pub is_heap : IsLineHeap heap
  pub out : (line : ℕ) → contains heap.out line ≡ is_taken lines line
  pub count : length heap.out ≡ held_count lines

-- the heap and the limit of weights are those of the budget
pub record IsKept (f : ForwardView) (most_weight : ℕ) (heap : HeapView) : Type 0 where
  pub forward : IsForward f
  pub out : AreOut f.lines heap
  pub peak : heap.peak ≡ f.most
  pub limit : heap.limit ≡ work_lines f.graph f.budget
  pub weights : most_weight ≡ f.budget.gates / 2
  pub few : f.budget.lines ≤ MOST_LINES

-- an output's sum can be added to any output line: the lines of its bases can be told, are
-- different, and none is that
pub record CanCopy (first : ℕ) (lines : List (Option ℕ)) (inputs : ℕ) (s : SumView) : Type 0 where
  pub placed : AllByRecursion (IsPlacedBase first lines) (bases_of s)
  pub apart : (target : ℕ) → inputs ≤ target → target < first
      → AreApart (base_line first lines) target (bases_of s)

-- What each product of a sum keeps.
abbrev pub HasProducts : SumView → Type 0
HasProducts s = AllByRecursion IsProduct s.products

-- the line on which a node is toggled, and the heap then: its own line, or the least free one
abbrev pub IsLineFor : Option ℕ → HeapView → HeapView → ℕ → Type 0
IsLineFor (Some own) old new line = (line ≡ own) × (new ≡ old)
IsLineFor None old new line =
    heaps.IsLeastFree old line × (new ≡ with_taken old line)
    × (new.peak ≡ max old.peak (length new.out))

-- there is none
abbrev pub HasNoLineFor : Option ℕ → HeapView → Type 0
HasNoLineFor own heap = (own ≡ None) × (length heap.out ≡ heap.limit)

-- the node's line once it is toggled, and the heap then: a line of its own is given back
abbrev pub IsLineAfter : Option ℕ → ℕ → HeapView → HeapView → Option ℕ → Type 0
IsLineAfter (Some own) line old new after =
    (new ≡ record old { out = without_line old.out own }) × (after ≡ None)
IsLineAfter None line old new after = (new ≡ old) × (after ≡ Some line)

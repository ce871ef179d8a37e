-- Forward parts: the nodes of a graph that are held on work lines, and the gates that put their
-- values there.
use Rattle.std.specs.Prelude.{◌≡◌, ℕ, ◌+◌, ◌-◌, ◌*◌, ◌<◌, ◌≤◌, ◌==◌, Bool, false, true, List, ◌++◌, length, slice_index_or, Option, Some, None, is_some, sum_by}
use Rattle.std.specs.Prelude.{count_by}
use Rattle.std.specs.List.{AllByRecursion, list_any}
use Rattle.list_facts.specs.Bits.{bit_of, zeros}
use Rattle.dependency_graph.specs.declared.node.Base.{Base}
use Rattle.dependency_graph.specs.declared.node.Base.TheVariants as bases
use Rattle.sum_graph.specs.Graphs.{SumGraphView, IsSumGraph, first_work, node_value}
use Rattle.gate_split.specs.Costs.{IsRoomyFlip}
use Rattle.circuit_plans.specs.Plans.{BudgetView}
use Rattle.mct_circuit.specs.Gates.{GateView, line_map}
use Rattle.mct_circuit.specs.Sizes.{weight_of}

-- a forward part: the graph, the budget, the gates so far, for each node None or its work line, and
-- the greatest number of nodes that were held at one time
pub record ForwardView : Type 0 where
  pub graph : SumGraphView
  pub budget : BudgetView
  pub gates : List GateView
  pub lines : List (Option ℕ)
  pub most : ℕ

-- ---- lines

-- how many work lines the budget has
abbrev pub work_lines : SumGraphView → BudgetView → ℕ
work_lines s b = b.lines - (first_work s + b.borrow)

-- ---- held nodes

-- the work line of a node, where it is held
abbrev pub held_line : List (Option ℕ) → ℕ → Option ℕ
held_line lines node = slice_index_or lines node None

abbrev pub is_held : List (Option ℕ) → ℕ → Bool
is_held lines node = is_some (held_line lines node)

-- an input, or a node that is held
abbrev pub is_ready : List (Option ℕ) → Base → Bool
is_ready lines (bases.Input i) = true
is_ready lines (bases.Node k) = is_held lines k

-- how many nodes are held
abbrev pub held_count : List (Option ℕ) → ℕ
held_count lines = count_by is_some lines

abbrev pub is_line : ℕ → Option ℕ → Bool
is_line line None = false
is_line line (Some own) = own == line

-- whether a node is held on the work line
abbrev pub is_taken : List (Option ℕ) → ℕ → Bool
is_taken lines line = list_any (is_line line) lines

-- the least work line on which no node is held
pub record IsLeastFree (lines : List (Option ℕ)) (line : ℕ) : Type 0 where
  pub free : is_taken lines line ≡ false
  pub least : (lesser : ℕ) → lesser < line → is_taken lines lesser ≡ true

-- ---- the uncomputation invariant

-- The content of the work lines on an input: each held node's value stands on its line, every other
-- work line holds 0, and whatever the output lines hold, the gates take the input, these bits and
-- zeros to the input, these bits and the content.
pub record IsContent (s : SumGraphView) (lines : List (Option ℕ)) (work : ℕ)
    (gates : List GateView) (input content : List Bool) : Type 0 where
  pub long : length content ≡ work
  pub held : (node line : ℕ) → held_line lines node ≡ Some line
      → bit_of content line ≡ node_value s input node
  pub free : (line : ℕ) → is_taken lines line ≡ false → bit_of content line ≡ false
  pub mapped : (outputs : List Bool) → length outputs ≡ length s.outputs
      → line_map gates (input ++ (outputs ++ zeros work)) ≡ input ++ (outputs ++ content)

-- on this input the work lines have such a content
pub record HoldsOn (s : SumGraphView) (lines : List (Option ℕ)) (work : ℕ)
    (gates : List GateView) (input : List Bool) : Type 0 where
  pub content : List Bool
  pub is : IsContent s lines work gates input content

-- on every input they do
pub record HoldsNodes (s : SumGraphView) (lines : List (Option ℕ)) (work : ℕ)
    (gates : List GateView) : Type 0 where
  pub on : (input : List Bool) → length input ≡ s.inputs → HoldsOn s lines work gates input

-- What a forward part keeps: its gates hold the nodes, different nodes on different lines; it has
-- as many work lines as the most nodes held at one time, and lines and gates are within the budget;
-- each gate is a flip that has at most two controls or leaves a line idle.
pub record IsForward (f : ForwardView) : Type 0 where
  pub sums : IsSumGraph f.graph
  pub nodes : length f.lines ≡ length f.graph.nodes
  pub different : (j k line : ℕ) → held_line f.lines j ≡ Some line
      → held_line f.lines k ≡ Some line → j ≡ k
  pub below : (node line : ℕ) → held_line f.lines node ≡ Some line → line < f.most
  pub count : held_count f.lines ≤ f.most
  pub within : first_work f.graph + f.most + f.budget.borrow ≤ f.budget.lines
  pub weight : 2 * sum_by weight_of f.gates ≤ f.budget.gates
  pub roomy : AllByRecursion (IsRoomyFlip (first_work f.graph + f.most)) f.gates
  pub holds : HoldsNodes f.graph f.lines f.most f.gates

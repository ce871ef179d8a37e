-- Work on a range of nodes of a forward part: what is held before and after, and what it costs.
use Rattle.std.specs.Prelude.{◌≡◌, ℕ, ◌+◌, ◌<◌, ◌≤◌, Bool, true, false, not, ◌&&◌, ◌||◌, List, length, sum_by}
use Rattle.list_facts.specs.Bits.{bit_of}
use Rattle.bit_sums.specs.Sums.{SumView}
use Rattle.mct_circuit.specs.Gates.{GateView}
use Rattle.sum_toggles.specs.Toggles.{toggle_weight}
use Rattle.circuit_plans.specs.declared.plan.PlanFault.{PlanFault}
use Rattle.sum_graph.specs.Graphs.{SumGraphView}
use Rattle.held_nodes.specs.Held.{ForwardView, IsForward, is_held}
use Rattle.held_nodes.specs.Moves.{IsReadyNode, IsToggleFault}
use Rattle.bennett_pebbling.specs.inside.Costs.{Allows, AllowsHeld, HasNeed, IsCovered, IsMove, IsMoveFault, IsShort}
use Rattle.held_nodes.specs.Prices.{IsPrice, price_at, prices}
use Rattle.bennett_pebbling.specs.inside.Costs.{IsHeavy, price_if}
use Rattle.bennett_pebbling.specs.inside.Costs.{counted, one_if, reach_of, toggles_at}
use Rattle.bennett_pebbling.specs.inside.Marks.{IsOutside, RestsOn}

-- ---- one node

-- a node that turns can be toggled
pub record CanTurn (f : ForwardView) (node : ℕ) (turn : Bool) : Type 0 where
  pub ready : turn ≡ true → IsReadyNode f.graph f.lines node

-- whether a node is held after it turned or not
abbrev pub turned : Bool → Bool → Bool
turned true held = not held
turned false held = held

-- the held nodes and the one that turns pass the test
pub record AllowsTurn (f : ForwardView) (node : ℕ) (turn : Bool) (allowed : ℕ → Bool)
    : Type 0 where
  pub held : AllowsHeld f allowed
  pub turning : turn ≡ true → allowed node ≡ true

-- the node turned, or not, and no other one
pub record IsTurned (f : ForwardView) (node : ℕ) (turn : Bool) (next : ForwardView)
    : Type 0 where
  pub here : is_held next.lines node ≡ turned turn (is_held f.lines node)
  pub others : (k : ℕ) → ¬ (k ≡ node) → is_held next.lines k ≡ is_held f.lines k
  pub move : (allowed : ℕ → Bool) → AllowsTurn f node turn allowed
      → IsMove f (counted allowed (length f.graph.nodes)) (one_if turn) next
  pub paid : (measure : GateView → ℕ) (price : SumView → ℕ) → IsPrice measure price
      → sum_by measure next.gates
      ≤ sum_by measure f.gates + price_if turn (price_at price f.graph node)

-- why a node did not turn: its toggle was refused
pub record IsTurnFault (f : ForwardView) (node : ℕ) (turn : Bool) (e : PlanFault)
    : Type 0 where
  pub turning : turn ≡ true
  pub toggle : IsToggleFault f node e
  pub fault : (allowed : ℕ → Bool) → AllowsTurn f node turn allowed
      → IsMoveFault f (counted allowed (length f.graph.nodes)) (one_if turn) e
  pub heavy : IsHeavy f (price_if turn (price_at toggle_weight f.graph node)) e

-- ---- a range

-- each operand that a node of the range has below the range is held
pub record IsReadyBelow (f : ForwardView) (lo count : ℕ) : Type 0 where
  pub ready : (k j : ℕ) → lo ≤ k → k < lo + count → j < lo → RestsOn f.graph k j
      → is_held f.lines j ≡ true

-- a range of the graph can be worked on: each operand below it is held
pub record CanWork (s : SumGraphView) (f : ForwardView) (lo count : ℕ) : Type 0 where
  pub graph : s ≡ f.graph
  pub keeps : IsForward f
  pub inside : lo + count ≤ length f.graph.nodes
  pub ready : IsReadyBelow f lo count

-- the marked nodes that are not held
abbrev pub is_missing : ForwardView → ℕ → List Bool → ℕ → Bool
is_missing f lo marks k = bit_of marks k && not (is_held f.lines (lo + k))

-- the held nodes that are not wanted
abbrev pub is_extra : ForwardView → ℕ → List Bool → ℕ → Bool
is_extra f lo wanted k = is_held f.lines (lo + k) && not (bit_of wanted k)

-- the marked nodes are held, too
pub record IsRaised (f : ForwardView) (lo : ℕ) (marks : List Bool) (next : ForwardView)
    : Type 0 where
  pub inside : (k : ℕ) → k < length marks
      → is_held next.lines (lo + k) ≡ (is_held f.lines (lo + k) || bit_of marks k)
  pub outside : (k : ℕ) → IsOutside lo (length marks) k
      → is_held next.lines k ≡ is_held f.lines k
  pub move : (allowed : ℕ → Bool) → Allows f lo marks allowed
      → IsMove f (counted allowed (length f.graph.nodes))
      (counted (is_missing f lo marks) (length marks)) next
  pub paid : (measure : GateView → ℕ) (price : SumView → ℕ) → IsPrice measure price
      → sum_by measure next.gates
      ≤ sum_by measure f.gates + prices price f.graph lo (length marks)

-- why they are not
pub record IsRaiseFault (f : ForwardView) (lo : ℕ) (marks : List Bool) (e : PlanFault)
    : Type 0 where
  pub fault : (allowed : ℕ → Bool) → Allows f lo marks allowed
      → IsMoveFault f (counted allowed (length f.graph.nodes))
      (counted (is_missing f lo marks) (length marks)) e
  pub heavy : IsHeavy f (prices toggle_weight f.graph lo (length marks)) e

-- the wanted nodes are held, and all operands of each held node that is not wanted
pub record CanLower (f : ForwardView) (lo : ℕ) (wanted : List Bool) : Type 0 where
  pub wanted_held : (k : ℕ) → bit_of wanted k ≡ true → is_held f.lines (lo + k) ≡ true
  pub ready : (k j : ℕ) → k < length wanted → is_extra f lo wanted k ≡ true
      → RestsOn f.graph (lo + k) j → is_held f.lines j ≡ true

-- in the range exactly the wanted nodes are held, elsewhere nothing is changed
pub record HoldsExactly (f : ForwardView) (lo : ℕ) (wanted : List Bool) (next : ForwardView)
    : Type 0 where
  pub inside : (k : ℕ) → k < length wanted → is_held next.lines (lo + k) ≡ bit_of wanted k
  pub outside : (k : ℕ) → IsOutside lo (length wanted) k
      → is_held next.lines k ≡ is_held f.lines k

-- the held nodes that are not wanted are cleaned
pub record IsLowered (f : ForwardView) (lo : ℕ) (wanted : List Bool) (next : ForwardView)
    : Type 0 where
  pub exactly : HoldsExactly f lo wanted next
  pub move : (allowed : ℕ → Bool) → AllowsHeld f allowed
      → IsMove f (counted allowed (length f.graph.nodes))
      (counted (is_extra f lo wanted) (length wanted)) next

-- why they are not
pub record IsLowerFault (f : ForwardView) (lo : ℕ) (wanted : List Bool) (e : PlanFault)
    : Type 0 where
  pub fault : (allowed : ℕ → Bool) → AllowsHeld f allowed
      → IsMoveFault f (counted allowed (length f.graph.nodes))
      (counted (is_extra f lo wanted) (length wanted)) e

-- ---- halves

-- the graph and the budget stay, and the move is within the numbers of the block, on any levels
-- that cover the range
pub record IsThrifty (f : ForwardView) (block lo : ℕ) (wanted : List Bool)
    (next : ForwardView) : Type 0 where
  pub graph : next.graph ≡ f.graph
  pub budget : next.budget ≡ f.budget
  pub move : (level width : ℕ) (allowed : ℕ → Bool)
      → IsCovered f.graph block (length wanted) level width → Allows f lo wanted allowed
      → IsMove f (reach_of f block level width allowed) (toggles_at block level) next

-- in the range exactly the wanted nodes are held, within the numbers of the block
pub record IsChanged (f : ForwardView) (block lo : ℕ) (wanted : List Bool)
    (next : ForwardView) : Type 0 where
  pub exactly : HoldsExactly f lo wanted next
  pub thrifty : IsThrifty f block lo wanted next

-- why they are not: the budget has less than the numbers of the block, on any levels that cover the
-- range
pub record IsChangeFault (f : ForwardView) (block lo : ℕ) (wanted : List Bool)
    (e : PlanFault) : Type 0 where
  pub need : HasNeed f e
  pub short : (level width : ℕ) (allowed : ℕ → Bool)
      → IsCovered f.graph block (length wanted) level width → Allows f lo wanted allowed
      → IsShort f (reach_of f block level width allowed) (toggles_at block level) e

-- each node of the range is toggled at most once
pub record IsPlain (f : ForwardView) (lo count : ℕ) (next : ForwardView) : Type 0 where
  pub move : IsMove f (length f.graph.nodes) count next
  pub paid : (measure : GateView → ℕ) (price : SumView → ℕ) → IsPrice measure price
      → sum_by measure next.gates ≤ sum_by measure f.gates + prices price f.graph lo count

-- why they are not
pub record IsPlainFault (f : ForwardView) (lo count : ℕ) (e : PlanFault) : Type 0 where
  pub short : IsShort f (length f.graph.nodes) count e
  pub heavy : IsHeavy f (prices toggle_weight f.graph lo count) e

-- the wanted nodes are held, and outside the range nothing is changed; within one block each node
-- is toggled at most once
pub record IsRisen (f : ForwardView) (block lo : ℕ) (wanted : List Bool)
    (next : ForwardView) : Type 0 where
  pub inside : (k : ℕ) → bit_of wanted k ≡ true → is_held next.lines (lo + k) ≡ true
  pub outside : (k : ℕ) → IsOutside lo (length wanted) k
      → is_held next.lines k ≡ is_held f.lines k
  pub thrifty : IsThrifty f block lo wanted next
  pub plain : length wanted ≤ block → IsPlain f lo (length wanted) next

-- why they are not; within one block the budget has less than a line and a toggle for each node
pub record IsRiseFault (f : ForwardView) (block lo : ℕ) (wanted : List Bool)
    (e : PlanFault) : Type 0 where
  pub change : IsChangeFault f block lo wanted e
  pub plain : length wanted ≤ block → IsPlainFault f lo (length wanted) e

-- What work on a range costs: the most nodes held at one time, and the number of toggles.
use Rattle.std.specs.Prelude.{◌≡◌, ℕ, zero, suc, ◌+◌, ◌*◌, ◌<◌, ◌≤◌, max, min, Bool, true, false, List, length, ⊤}
use Rattle.list_facts.specs.Bits.{bit_of}
use Rattle.sum_graph.specs.Uses.{sum_cut}
use Rattle.sum_graph.specs.Graphs.{SumGraphView}
use Rattle.circuit_plans.specs.declared.plan.PlanFault.{PlanFault}
use Rattle.circuit_plans.specs.declared.plan.PlanFault.TheVariants.{Lines, Gates, Memory}
use Rattle.held_nodes.specs.Held.{ForwardView, is_held, work_lines}
use Rattle.mct_circuit.specs.Sizes.{weight_in}
use Rattle.mct_circuit.specs.Gates.{AreNarrow}
use Rattle.bennett_pebbling.specs.Pebbling.{IsLight}

-- ---- counts

-- 1 for true, 0 for false
abbrev pub one_if : Bool → ℕ
one_if true = 1
one_if false = 0

-- how many numbers below n pass the test
abbrev pub counted : (ℕ → Bool) → ℕ → ℕ
counted test zero = 0
counted test (suc n) = counted test n + one_if (test n)

-- ---- prices

-- what is paid where a node turns
abbrev pub price_if : Bool → ℕ → ℕ
price_if true price = price
price_if false price = 0

-- the gates are too few where toggles of this weight are added; a line or memory may be wanted at
-- the first of them, whatever all weigh
abbrev pub IsHeavy : ForwardView → ℕ → PlanFault → Type 0
IsHeavy f weight (Lines need) = ⊤
IsHeavy f weight Gates = f.budget.gates < 2 * (weight_in f.gates + weight)
IsHeavy f weight (Memory _) = ⊤

-- ---- moves

-- at most so many toggles, by which never more nodes are held than the reach, or than were before,
-- or than there are
pub record IsMove (f : ForwardView) (reach toggles : ℕ) (next : ForwardView) : Type 0 where
  pub graph : next.graph ≡ f.graph
  pub budget : next.budget ≡ f.budget
  pub most : next.most ≤ max f.most reach
  pub few : f.most ≤ length f.graph.nodes → next.most ≤ length f.graph.nodes
  pub weight : IsLight f.graph → weight_in next.gates ≤ weight_in f.gates + 2 * toggles
  pub narrow : AreNarrow f.gates → AreNarrow next.gates

-- one line more than the budget has is wanted, and it has fewer work lines than there are nodes;
-- gates or memory may be wanted however many it has
abbrev pub HasNeed : ForwardView → PlanFault → Type 0
HasNeed f (Lines need) =
    (need ≡ f.budget.lines + 1) × (work_lines f.graph f.budget < length f.graph.nodes)
HasNeed f Gates = ⊤
HasNeed f (Memory _) = ⊤

-- the work lines are fewer than the reach, or the gates too few for the toggles; memory is wanted
-- for the marks of a range, whatever the budget has
abbrev pub IsShort : ForwardView → ℕ → ℕ → PlanFault → Type 0
IsShort f reach toggles (Lines need) = work_lines f.graph f.budget < reach
IsShort f reach toggles Gates =
    IsLight f.graph → f.budget.gates < 2 * (weight_in f.gates + 2 * toggles)
IsShort f reach toggles (Memory _) = ⊤

-- why such a move was refused
pub record IsMoveFault (f : ForwardView) (reach toggles : ℕ) (e : PlanFault) : Type 0 where
  pub need : HasNeed f e
  pub short : IsShort f reach toggles e

-- ---- the numbers of a block, on so many levels

-- the nodes of a range
abbrev pub size_at : ℕ → ℕ → ℕ
size_at block zero = block
size_at block (suc level) = 2 * size_at block level

-- what is held in a block beside what is held or wanted: nothing in a block of one node
abbrev pub block_room : ℕ → ℕ → ℕ
block_room (suc zero) nodes = 0
block_room block nodes = min block nodes

-- the toggles of a block: the node itself in a block of one node, else each node up and down
abbrev pub block_toggles : ℕ → ℕ
block_toggles (suc zero) = 1
block_toggles block = 2 * block

-- what is held beside what is held or wanted, on so many levels: each one holds a cut
abbrev pub room_at : ℕ → ℕ → ℕ → ℕ → ℕ
room_at block nodes width zero = block_room block nodes
room_at block nodes width (suc level) = width + room_at block nodes width level

-- the toggles on so many levels: three works on each
abbrev pub toggles_at : ℕ → ℕ → ℕ
toggles_at block zero = block_toggles block
toggles_at block (suc level) = 3 * toggles_at block level

-- no cut is longer than the width, and the range has no more nodes than these levels
pub record IsCovered (s : SumGraphView) (block count level width : ℕ) : Type 0 where
  pub cuts : (j : ℕ) → j ≤ length s.nodes → length (sum_cut s j) ≤ width
  pub enough : count ≤ size_at block level

-- each node that is held passes the test
pub record AllowsHeld (f : ForwardView) (allowed : ℕ → Bool) : Type 0 where
  pub held : (k : ℕ) → is_held f.lines k ≡ true → allowed k ≡ true

-- each node that is held or wanted passes the test
pub record Allows (f : ForwardView) (lo : ℕ) (wanted : List Bool) (allowed : ℕ → Bool)
    : Type 0 where
  pub held : AllowsHeld f allowed
  pub marked : (k : ℕ) → bit_of wanted k ≡ true → allowed (lo + k) ≡ true

-- how many nodes are allowed, and the room beside them
abbrev pub reach_of : ForwardView → ℕ → ℕ → ℕ → (ℕ → Bool) → ℕ
reach_of f block level width allowed =
    counted allowed (length f.graph.nodes) + room_at block (length f.graph.nodes) width level

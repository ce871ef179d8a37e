-- What is held and paid for while the nodes are gone through in order.
use Rattle.std.specs.Prelude.{◌≡◌, ◌≢◌, ℕ, zero, suc, ◌+◌, ◌*◌, ◌<◌, ◌≤◌, nat_lt, Bool, true, false, if◌then◌else◌, List, length, Option, Some, None, is_some}
use Rattle.std.specs.Prelude.{◌⊎◌, slice_get, sum_by}
use Rattle.std.specs.List.{AllByRecursion, list_all}
use Rattle.claim_check.specs.Settled.{SettledView, IsSettled, as_graph}
use Rattle.sum_graph.specs.Plain.{plain_of}
use Rattle.dependency_graph.specs.declared.node.Base.{Base}
use Rattle.dependency_graph.specs.declared.node.Base.TheVariants as bases
use Rattle.dependency_graph.specs.declared.node.Node.{Node}
use Rattle.dependency_graph.specs.Graphs.{IsKnownBase, operands}
use Rattle.dependency_graph.specs.Uses.{cut_in}
use Rattle.circuit_plans.specs.declared.plan.PlanFault.{PlanFault}
use Rattle.circuit_plans.specs.declared.plan.PlanFault.TheVariants.{Lines, Gates, Memory}
use Rattle.gate_split.specs.Costs.{most_gates}
use Rattle.circuit_plans.specs.Plans.{BudgetView}
use Rattle.held_nodes.specs.Held.{ForwardView, IsForward, held_line, is_held, is_ready}
use Rattle.held_nodes.specs.Moves.{IsReadyNode}
use Rattle.list_facts.specs.Lists.{IsAmong}
use Rattle.eager_cleanup.specs.inside.Known.{Polynomial, HasLargeNode, IsKnownValue, last_use_of, value_at}

-- ---- what can be cleaned by its operands

-- each operand is an input or held
abbrev pub are_ready : List (Option ℕ) → Node → Bool
are_ready lines node = list_all (is_ready lines) (operands node)

-- an earlier node than another
abbrev pub is_earlier : Base → Base → Bool
is_earlier (bases.Input i) b = false
is_earlier (bases.Node j) (bases.Input i) = false
is_earlier (bases.Node j) (bases.Node k) = nat_lt j k

-- ---- what is paid for

-- the sum of a function of the numbers below a count
abbrev pub total : (ℕ → ℕ) → ℕ → ℕ
total f zero = 0
total f (suc k) = total f k + f k

-- the most gates that clean a node of n inputs with this value
abbrev pub cleaning_gates : ℕ → Option Polynomial → ℕ
cleaning_gates n None = 2
cleaning_gates n (Some p) = 2 + length p * (10 * n + 1)

-- the most gates that were put for a node so far, where its cleaning takes at most so many: it was
-- made, and cleaned if it is not held any more
abbrev pub paid_gates : ℕ → List (Option ℕ) → ℕ → ℕ
paid_gates cost lines k = if is_held lines k then 2 else 2 + cost

-- the most gates that were put for the first nodes
abbrev pub all_paid : (ℕ → ℕ) → List (Option ℕ) → ℕ → ℕ
all_paid cost lines count = total (λ k. paid_gates (cost k) lines k) count

-- what gates are split into, at most
abbrev pub gates_in : ForwardView → ℕ
gates_in f = sum_by most_gates f.gates

-- ---- between two nodes

-- no cut of the nodes is longer
pub record BoundsCuts (s : SettledView) (width : ℕ) : Type 0 where
  pub cuts : (j : ℕ) → j ≤ length s.nodes → length (cut_in (as_graph s) j) ≤ width

-- no cleaning of a node takes more gates
pub record BoundsCleanings (s : SettledView) (cost : ℕ → ℕ) : Type 0 where
  pub each : (k : ℕ) (value : Option Polynomial) → k < length s.nodes → IsKnownValue s k value
      → cleaning_gates s.inputs value ≤ cost k

-- the last of the first `count` nodes uses this one for the last time, and it is one of `used`
pub record IsWaiting (s : SettledView) (count : ℕ) (used : List Base) (k : ℕ) : Type 0 where
  pub last : last_use_of s k + 1 ≡ count
  pub among : IsAmong (bases.Node k) used

-- The first `count` nodes were gone through, and what the last of them uses for the last time may
-- still be held where it is in `used`. The nodes of later last use are held, no node behind these
-- is, and where no node is large no other node is. No more gates were put than the nodes so far may
-- cost.
pub record IsSwept (s : SettledView) (b : BudgetView) (count : ℕ) (used : List Base)
    (f : ForwardView) : Type 0 where
  pub settled : IsSettled s
  pub forward : IsForward f
  pub graph : f.graph ≡ plain_of s
  pub budget : f.budget ≡ b
  pub behind : (k : ℕ) → count ≤ k → is_held f.lines k ≡ false
  pub needed : (k : ℕ) → k < count → count ≤ last_use_of s k → is_held f.lines k ≡ true
  pub cleaned : ¬ HasLargeNode s → (k : ℕ) → is_held f.lines k ≡ true
      → last_use_of s k < count → IsWaiting s count used k
  pub most : f.most ≤ count
  pub few : ¬ HasLargeNode s → (width : ℕ) → BoundsCuts s width → f.most ≤ width + 1
  pub gates : (cost : ℕ → ℕ) → BoundsCleanings s cost → gates_in f ≤ all_paid cost f.lines count

-- these operands of node `user`, which was made last, may be cleaned
pub record CanClean (s : SettledView) (b : BudgetView) (user : ℕ) (used : List Base)
    (f : ForwardView) : Type 0 where
  pub inside : user < length s.nodes
  pub bases : AllByRecursion (IsKnownBase s.inputs user) used
  pub swept : IsSwept s b (user + 1) used f

-- the last of them was made, and nothing was cleaned since
pub record IsMade (s : SettledView) (b : BudgetView) (user : ℕ) (f : ForwardView) : Type 0 where
  pub node : Node
  pub is : slice_get s.nodes user ≡ Some node
  pub swept : IsSwept s b (user + 1) (operands node) f

-- ---- a cleaning

-- The node was cleaned, or stays held where its value is not known.
pub record IsCleaned (value : Option Polynomial) (f : ForwardView) (k : ℕ)
    (next : ForwardView) : Type 0 where
  pub forward : IsForward next
  pub graph : next.graph ≡ f.graph
  pub budget : next.budget ≡ f.budget
  pub most : next.most ≡ f.most
  pub others : (i : ℕ) → i ≢ k → held_line next.lines i ≡ held_line f.lines i
  pub gone : is_some value ≡ true → is_held next.lines k ≡ false
  pub gates : (cost : ℕ) → cleaning_gates f.graph.inputs value ≤ cost
      → gates_in next + paid_gates cost f.lines k ≤ gates_in f + paid_gates cost next.lines k

-- the node is held, and the gates so far and those of its cleaning are too many for the budget
pub record IsTooHeavy (value : Option Polynomial) (f : ForwardView) (k : ℕ) : Type 0 where
  pub held : is_held f.lines k ≡ true
  pub heavy : f.budget.gates < 2 * (gates_in f + cleaning_gates f.graph.inputs value)

-- the node is held, and its operands are so, or its value is known
pub record IsCleanable (value : Option Polynomial) (f : ForwardView) (k : ℕ) : Type 0 where
  pub held : is_held f.lines k ≡ true
  pub how : IsReadyNode f.graph f.lines k ⊎ (is_some value ≡ true)

abbrev pub IsCleaningFault : Option Polynomial → ForwardView → ℕ → PlanFault → Type 0
IsCleaningFault value f k (Lines need) = ⊥
IsCleaningFault value f k Gates = IsTooHeavy value f k
IsCleaningFault value f k (Memory _) = IsCleanable value f k

-- ---- the cleaning of an operand

-- it is a node that this one uses for the last time
pub record IsLastUse (s : SettledView) (user : ℕ) (base : Base) (k : ℕ) : Type 0 where
  pub is : base ≡ bases.Node k
  pub last : last_use_of s k ≡ user

-- such a node was cleaned, and without one nothing changed
pub record IsUsed (s : SettledView) (known : List (Option Polynomial)) (user : ℕ) (base : Base)
    (f next : ForwardView) : Type 0 where
  pub cleaned : (k : ℕ) → IsLastUse s user base k → IsCleaned (value_at known k) f k next
  pub stays : ((k : ℕ) → ¬ IsLastUse s user base k) → next ≡ f

-- its cleaning is too heavy
pub record HasHeavy (s : SettledView) (known : List (Option Polynomial)) (user : ℕ) (base : Base)
    (f : ForwardView) : Type 0 where
  pub node : ℕ
  pub is : IsLastUse s user base node
  pub heavy : IsTooHeavy (value_at known node) f node

-- it can be cleaned
pub record HasCleanable (s : SettledView) (known : List (Option Polynomial)) (user : ℕ)
    (base : Base) (f : ForwardView) : Type 0 where
  pub node : ℕ
  pub is : IsLastUse s user base node
  pub cleanable : IsCleanable (value_at known node) f node

abbrev pub IsUseFault : SettledView → List (Option Polynomial) → ℕ → Base → ForwardView
    → PlanFault → Type 0
IsUseFault s known user base f (Lines need) = ⊥
IsUseFault s known user base f Gates = HasHeavy s known user base f
IsUseFault s known user base f (Memory _) = HasCleanable s known user base f

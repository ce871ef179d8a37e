-- Lines as sets of bits: behind the gates so far, each line holds the exclusive or of the bits of
-- its set.
use Rattle.std.specs.Prelude.{◌≡◌, ℕ, ◌+◌, ◌-◌, ◌≤◌, ◌==◌, Bool, false, not, ◌&&◌, List, [], ◌∷◌, ◌++◌, length, map, nat_le, nat_lt, slice_index_or, slice_set, take, drop, replicate}
use Rattle.std.specs.List.{AllByRecursion}
use Rattle.list_facts.specs.Bits.{bit_of, zeros}
use Rattle.list_facts.specs.Lists.{AllFrom, below}
use Rattle.dependency_graph.specs.declared.node.Base.{Base}
use Rattle.dependency_graph.specs.declared.node.Base.TheVariants as bases
use Rattle.dependency_graph.specs.Graphs.{base_bit}
use Rattle.bit_sums.specs.Bits.{apart}
use Rattle.bit_sums.specs.Sums.{SumView, xor_by}
use Rattle.circuit_plans.specs.declared.plan.TheConstants.{MOST_LINES}
use Rattle.circuit_plans.specs.declared.roles.Start.{Start}
use Rattle.circuit_plans.specs.declared.roles.Start.TheVariants.{Any, Zero}
use Rattle.circuit_plans.specs.Plans.{BudgetView, PlannedView}
use Rattle.sum_graph.specs.Graphs.{first_work}
use Rattle.mct_circuit.specs.Gates.{AreGatesOn, AreNarrow, GateView, flip_of, line_map}
use Rattle.sum_graph.specs.Graphs.{IsSumGraph, SumGraphView, sums_made}
use Rattle.line_states.specs.Gathers.{PairView, all_fit, set_at, toggle_gates}

-- a circuit in the making: the graph, the budget, what the output lines may hold at the start, the
-- gates so far, and for each line its set
pub record StatesView : Type 0 where
  pub graph : SumGraphView
  pub budget : BudgetView
  pub start : Start
  pub gates : List GateView
  pub sets : List (List Base)

-- ---- values

-- what is toggled: the nodes, and behind them the outputs
abbrev pub all_sums : SumGraphView → List SumView
all_sums g = g.nodes ++ g.outputs

-- how many of the first lines are given any bits: those of the inputs, and those of the outputs
-- where these may hold any
abbrev pub given_lines : Start → SumGraphView → ℕ
given_lines Any g = first_work g
given_lines Zero g = g.inputs

-- the value of a bit, with these bits on the given lines; that of an output line counts as an input
-- behind the inputs
abbrev pub bit_value : SumGraphView → List Bool → Base → Bool
bit_value g given base = base_bit (bit_of given) (sums_made (bit_of given) [] (all_sums g)) base

-- the value of a set
abbrev pub set_value : SumGraphView → List Bool → List Base → Bool
set_value g given set = xor_by (bit_value g given) set

-- ---- what is kept

-- whatever bits are given, with zeros on the other lines, each line's bit behind the gates is the
-- value of its set
pub record HoldsSets (s : StatesView) : Type 0 where
  pub on : (given : List Bool) → length given ≡ given_lines s.start s.graph
      → line_map s.gates (given ++ zeros (length s.sets - given_lines s.start s.graph))
      ≡ map (set_value s.graph given) s.sets

-- The gates hold the sets, and are narrow; there is a line for each input and output, and lines and
-- gates are within the budget.
pub record AreStates (s : StatesView) : Type 0 where
  pub graph : IsSumGraph s.graph
  pub wide : first_work s.graph ≤ length s.sets
  pub most : s.budget.lines ≤ MOST_LINES
  pub few : length s.sets + s.budget.borrow ≤ s.budget.lines
  pub limited : length s.gates ≤ s.budget.gates
  pub gates_on : AreGatesOn (length s.sets) s.gates
  pub narrow : AreNarrow s.gates
  pub holds : HoldsSets s

-- ---- the beginning

-- so many lines that hold the bits that they are given, and so many others that hold nothing
abbrev pub start_sets : ℕ → ℕ → List (List Base)
start_sets given others = map (λ (i : ℕ). bases.Input i ∷ []) (below given) ++ replicate others []

abbrev pub begun : SumGraphView → BudgetView → Start → StatesView
begun g b start = record {
  graph = g;
  budget = b;
  start = start;
  gates = [];
  sets = start_sets (given_lines start g) (first_work g - given_lines start g);
}

-- ---- the steps

-- with more gates, and another set of a line
abbrev pub with_set : StatesView → ℕ → List Base → List GateView → StatesView
with_set s line set more =
    record s { gates = s.gates ++ more; sets = slice_set s.sets line set }

-- the budget has so many gates more
abbrev pub has_room : StatesView → List GateView → Bool
has_room s more = nat_le (length s.gates + length more) s.budget.gates

-- the budget has a line more
abbrev pub has_line : StatesView → Bool
has_line s = nat_lt (length s.sets + s.budget.borrow) s.budget.lines

-- with one line more, which holds nothing
abbrev pub with_line : StatesView → StatesView
with_line s = record s { sets = s.sets ++ [] ∷ [] }

-- the gate of a copy
abbrev pub copy_gates : ℕ → ℕ → List GateView
copy_gates from to = flip_of (from ∷ []) to ∷ []

-- these are two lines, and the budget has a gate more
abbrev pub can_copy : StatesView → ℕ → ℕ → Bool
can_copy s from to =
    nat_lt from (length s.sets)
    && nat_lt to (length s.sets)
    && not (from == to)
    && has_room s (copy_gates from to)

-- a copy adds one set to another
abbrev pub copied : StatesView → ℕ → ℕ → StatesView
copied s from to =
    with_set s to (apart (set_at s.sets to) (set_at s.sets from)) (copy_gates from to)

-- a set with a node, and with the bits of its sum
abbrev pub toggled_set : List Base → ℕ → SumView → List Base
toggled_set set node sum = apart (apart set sum.bits) (bases.Node node ∷ [])

abbrev pub no_sum : SumView
no_sum = record { bits = []; products = []; one = false }

-- the sum of a node, or of an output behind the nodes
abbrev pub sum_at : SumGraphView → ℕ → SumView
sum_at g node = slice_index_or (all_sums g) node no_sum

-- the gates of a toggle
abbrev pub node_gates : StatesView → ℕ → ℕ → List PairView → List GateView
node_gates s node onto pairs = toggle_gates onto pairs (sum_at s.graph node).one

-- the pairs are the products of the node's sum, on other lines than the target, and the budget has
-- the gates
abbrev pub can_toggle : StatesView → ℕ → ℕ → List PairView → Bool
can_toggle s node onto pairs =
    nat_lt node (length (all_sums s.graph))
    && nat_lt onto (length s.sets)
    && all_fit s.sets onto pairs (sum_at s.graph node).products
    && has_room s (node_gates s node onto pairs)

-- the gates add the products and the constant to the line, and so the node and the bits of its sum
abbrev pub toggled : StatesView → ℕ → ℕ → List PairView → StatesView
toggled s node onto pairs =
    with_set s onto (toggled_set (set_at s.sets onto) node (sum_at s.graph node))
    (node_gates s node onto pairs)

-- ---- the end

-- the set of an output line: its output, beside the bit that it was given
abbrev pub output_set : Start → Base → Base → List Base
output_set Any held output = held ∷ output ∷ []
output_set Zero held output = output ∷ []

-- that of the k-th one, behind so many inputs and nodes
abbrev pub ended_set : Start → ℕ → ℕ → ℕ → List Base
ended_set start inputs nodes k =
    output_set start (bases.Input (inputs + k)) (bases.Node (nodes + k))

-- each of n input lines holds its own input, each output line what it did and its output, which is
-- counted behind so many nodes, and no work line anything
pub record AreEndSets (start : Start) (n nodes : ℕ) (inputs outputs work : List (List Base))
    : Type 0 where
  pub own : AllFrom (λ i (set : List Base). set ≡ bases.Input i ∷ []) 0 inputs
  pub added : AllFrom (λ k (set : List Base). set ≡ ended_set start n nodes k) 0 outputs
  pub empty : AllByRecursion (λ (set : List Base). set ≡ []) work

abbrev pub AreEnded : StatesView → Type 0
AreEnded s =
    AreEndSets s.start s.graph.inputs (length s.graph.nodes) (take s.graph.inputs s.sets)
    (take (length s.graph.outputs) (drop s.graph.inputs s.sets))
    (drop (length s.graph.outputs) (drop s.graph.inputs s.sets))

abbrev pub planned_of_parts : SumGraphView → BudgetView → ℕ → List GateView → PlannedView
planned_of_parts g b lines gates = record {
  circuit = record { lines = lines; limit = b.gates; gates = gates };
  inputs = g.inputs;
  outputs = length g.outputs;
  work = lines - first_work g;
}

abbrev pub planned_of : StatesView → PlannedView
planned_of s = planned_of_parts s.graph s.budget (length s.sets) s.gates

-- What can be done with a forward part: a toggle of a node, a clearing by cubes, and the finish.
use Rattle.std.specs.Prelude.{◌≡◌, ℕ, ◌+◌, ◌*◌, ◌<◌, ◌≤◌, max, Bool, true, false, List, [], ◌∷◌, ◌++◌, length, map, reverse, slice_get, slice_set}
use Rattle.std.specs.Prelude.{Option, Some, None, ⊤, sum_by}
use Rattle.std.specs.List.{AllByRecursion}
use Rattle.list_facts.specs.Bits.{bit_of}
use Rattle.dependency_graph.specs.declared.node.Base.{Base}
use Rattle.dependency_graph.specs.declared.node.Base.TheVariants as bases
use Rattle.bit_sums.specs.Sums.{SumView, bases_of}
use Rattle.exclusive_sums.specs.declared.cube.Literal.{Literal}
use Rattle.exclusive_sums.specs.Cubes.{value_of_cubes}
use Rattle.circuit_plans.specs.declared.plan.PlanFault.{PlanFault}
use Rattle.circuit_plans.specs.declared.plan.PlanFault.TheVariants.{Lines, Gates, Memory}
use Rattle.circuit_plans.specs.Plans.{BudgetView, PlannedView}
use Rattle.mct_circuit.specs.declared.gate.Control.{Control}
use Rattle.mct_circuit.specs.declared.gate.Op.TheVariants.{Flip}
use Rattle.mct_circuit.specs.Gates.{GateView}
use Rattle.mct_circuit.specs.Sizes.{weight_in}
use Rattle.sum_graph.specs.Graphs.{SumGraphView, node_value}
use Rattle.sum_toggles.specs.Toggles.{base_line, sum_gates, toggle_weight}
use Rattle.held_nodes.specs.Held.{ForwardView, IsLeastFree, work_lines, held_line, is_held, held_count}
use Rattle.sum_graph.specs.Graphs.{first_work}

-- ---- the gates; `first` is the first work line

-- the gates of a toggle: they add the node's value to a work line
abbrev pub toggle_of : ℕ → List (Option ℕ) → ℕ → SumView → List GateView
toggle_of first lines line node = sum_gates (base_line first lines) (first + line) node

-- a literal as a control on its input's line
abbrev pub control_of : Literal → Control
control_of literal = record { line = literal.input; positive = literal.positive }

-- the flip of a work line by a cube
abbrev pub cube_flip : ℕ → ℕ → List Literal → GateView
cube_flip first line cube = record { controls = map control_of cube; op = Flip (first + line) }

abbrev pub cube_flips : ℕ → ℕ → List (List Literal) → List GateView
cube_flips first line cubes = map (cube_flip first line) cubes

-- the gates that add outputs to the lines from the given one on
abbrev pub copies_from : ℕ → List (Option ℕ) → ℕ → List SumView → List GateView
copies_from first lines target [] = []
copies_from first lines target (s ∷ rest) =
    sum_gates (base_line first lines) target s ++ copies_from first lines (target + 1) rest

abbrev pub copies_of : ForwardView → List GateView
copies_of f = copies_from (first_work f.graph) f.lines f.graph.inputs f.graph.outputs

-- the forward part with more gates, and with a node held on a line or not
abbrev pub with_node : ForwardView → ℕ → Option ℕ → List GateView → ForwardView
with_node f node line gates =
    let lines = slice_set f.lines node line in
    record f {
      gates = f.gates ++ gates;
      lines = lines;
      most = max f.most (held_count lines);
    }

-- ---- the beginning

-- no node is held yet
abbrev pub nothing_held : SumGraphView → BudgetView → List (Option ℕ) → ForwardView
nothing_held s b lines =
    record { graph = s; budget = b; gates = []; lines = lines; most = 0 }

-- the budget does not have a line for each input, output and borrowed bit
abbrev pub IsStartFault : SumGraphView → BudgetView → PlanFault → Type 0
IsStartFault s b (Lines need) = (b.lines < need) × (need ≡ first_work s + b.borrow)
IsStartFault s b Gates = ⊥
IsStartFault s b (Memory _) = first_work s + b.borrow ≤ b.lines

-- ---- a toggle

-- an input, or a node that is held
abbrev pub IsReadyBase : List (Option ℕ) → Base → Type 0
IsReadyBase lines (bases.Input i) = ⊤
IsReadyBase lines (bases.Node k) = is_held lines k ≡ true

-- it is a node of the graph, and each of its operands is an input or held
pub record IsReadyNode (s : SumGraphView) (lines : List (Option ℕ)) (k : ℕ) : Type 0 where
  pub node : SumView
  pub is : slice_get s.nodes k ≡ Some node
  pub ready : AllByRecursion (IsReadyBase lines) (bases_of node)

-- the work line on which a toggle acts, and the node's line afterwards: a node that is held is
-- toggled on its own line, which it gives back; one that is not held takes the least free line
abbrev pub TakesLine : List (Option ℕ) → Option ℕ → ℕ → Option ℕ → Type 0
TakesLine lines (Some own) line after = (line ≡ own) × (after ≡ None)
TakesLine lines None line after = IsLeastFree lines line × (after ≡ Some line)

pub record IsToggled (f : ForwardView) (k : ℕ) (next : ForwardView) : Type 0 where
  pub node : SumView
  pub is : slice_get f.graph.nodes k ≡ Some node
  pub line : ℕ
  pub after : Option ℕ
  pub takes : TakesLine f.lines (held_line f.lines k) line after
  pub becomes :
      next ≡ with_node f k after (toggle_of (first_work f.graph) f.lines line node)
  pub weighs : weight_in (toggle_of (first_work f.graph) f.lines line node) ≡ toggle_weight node

-- the node is not held, and as many nodes are as the budget has work lines
pub record HasNoLine (f : ForwardView) (k : ℕ) : Type 0 where
  pub free : is_held f.lines k ≡ false
  pub full : held_count f.lines ≡ work_lines f.graph f.budget

-- twice the weight of the gates, with that of this node's toggle, passes the budget
pub record IsToggleTooHeavy (f : ForwardView) (k : ℕ) : Type 0 where
  pub node : SumView
  pub is : slice_get f.graph.nodes k ≡ Some node
  pub heavy : f.budget.gates < 2 * (weight_in f.gates + toggle_weight node)

abbrev pub IsToggleFault : ForwardView → ℕ → PlanFault → Type 0
IsToggleFault f k (Lines need) = HasNoLine f k × (need ≡ f.budget.lines + 1)
IsToggleFault f k Gates = (¬ HasNoLine f k) × IsToggleTooHeavy f k
IsToggleFault f k (Memory _) = (¬ HasNoLine f k) × (¬ IsToggleTooHeavy f k)

-- ---- a clearing by cubes

-- the node is held, and the cubes, all over inputs, have its value
pub record CanClear (f : ForwardView) (k : ℕ) (cubes : List (List Literal)) : Type 0 where
  pub held : is_held f.lines k ≡ true
  pub inputs : AllByRecursion (AllByRecursion (λ (l : Literal). l.input < f.graph.inputs)) cubes
  pub value : (input : List Bool) → length input ≡ f.graph.inputs
      → value_of_cubes (bit_of input) cubes ≡ node_value f.graph input k

pub record IsCleared (f : ForwardView) (k : ℕ) (cubes : List (List Literal))
    (next : ForwardView) : Type 0 where
  pub line : ℕ
  pub is : held_line f.lines k ≡ Some line
  pub becomes : next ≡ with_node f k None (cube_flips (first_work f.graph) line cubes)

-- twice the weight of the gates, with that of the cubes' flips, passes the budget
pub record IsClearTooHeavy (f : ForwardView) (k : ℕ) (cubes : List (List Literal)) : Type 0 where
  pub line : ℕ
  pub is : held_line f.lines k ≡ Some line
  pub heavy : f.budget.gates
      < 2 * (weight_in f.gates + weight_in (cube_flips (first_work f.graph) line cubes))

abbrev pub IsClearFault : ForwardView → ℕ → List (List Literal) → PlanFault → Type 0
IsClearFault f k cubes (Lines need) = ⊥
IsClearFault f k cubes Gates = IsClearTooHeavy f k cubes
IsClearFault f k cubes (Memory _) = ¬ IsClearTooHeavy f k cubes

-- ---- the finish

-- a sum of inputs and of nodes that are held
abbrev pub IsReadySum : List (Option ℕ) → SumView → Type 0
IsReadySum lines s = AllByRecursion (IsReadyBase lines) (bases_of s)

-- the gates, the copies, and the gates reversed
abbrev pub finished_gates : ForwardView → List GateView
finished_gates f = f.gates ++ copies_of f ++ reverse f.gates

abbrev pub planned_of : ForwardView → PlannedView
planned_of f =
    record {
      circuit = record {
        lines = first_work f.graph + f.most;
        limit = f.budget.gates;
        gates = finished_gates f;
      };
      inputs = f.graph.inputs;
      outputs = length f.graph.outputs;
      work = f.most;
    }

-- twice the weight of the gates and once that of the copies
abbrev pub finished_weight : ForwardView → ℕ
finished_weight f = 2 * weight_in f.gates + sum_by toggle_weight f.graph.outputs

abbrev pub IsFinishFault : ForwardView → PlanFault → Type 0
IsFinishFault f (Lines need) = ⊥
IsFinishFault f Gates = f.budget.gates < finished_weight f
IsFinishFault f (Memory _) = finished_weight f ≤ f.budget.gates

-- Budgets and plans as contracts see them, the roles of a plan's lines, and clean circuits.
use Rattle.std.specs.Prelude.{◌≡◌, ℕ, ◌+◌, ◌-◌, ◌*◌, ◌≤◌, Bool, nat_lt, if◌then◌else◌, List, ◌++◌, length, ⊤}
use Rattle.std.specs.Bool.{xor}
use Rattle.std.specs.Simd.Lanes.{zip2}
use Rattle.list_facts.specs.Bits.{zeros}
use Rattle.mct_circuit.specs.Gates.{GateView, CircuitView, AreGatesOn, AreNarrow, line_map}
use Rattle.mct_circuit.specs.Sizes.{counts_of, weight_in}
use Rattle.circuit_plans.specs.declared.choice.Plan.{Plan}
use Rattle.circuit_plans.specs.declared.choice.Plan.TheVariants.{Auto, Compact, Eager, Lean, Pebble, Shallow}
use Rattle.circuit_plans.specs.declared.roles.Placing.{Placing}
use Rattle.circuit_plans.specs.declared.roles.Placing.TheVariants.{Added, InPlace}
use Rattle.circuit_plans.specs.declared.roles.Roles.{Roles}
use Rattle.circuit_plans.specs.declared.roles.Role.{Role}
use Rattle.circuit_plans.specs.declared.size.Size.{Size}
use Rattle.circuit_plans.specs.declared.roles.Role.TheVariants.{Input, Output, Work, Borrowed}
use Rattle.circuit_plans.specs.declared.roles.Start.{Start}
use Rattle.circuit_plans.specs.declared.roles.Start.TheVariants.{Any, Zero}

pub record BudgetView : Type 0 where
  pub lines : ℕ
  pub gates : ℕ
  pub borrow : ℕ

pub record PlannedView : Type 0 where
  pub circuit : CircuitView
  pub inputs : ℕ
  pub outputs : ℕ
  pub work : ℕ

pub record LaidView : Type 0 where
  pub circuit : CircuitView
  pub inputs : ℕ
  pub outputs : ℕ
  pub work : ℕ
  pub borrowed : ℕ

-- ---- roles: input lines come first, then output lines, work lines and borrowed ones

-- the number of lines
abbrev pub lines_in : Roles → ℕ
lines_in roles = roles.inputs + roles.outputs + roles.work + roles.borrowed

-- the first line of a role
abbrev pub first_of : Roles → Role → ℕ
first_of roles Input = 0
first_of roles Output = roles.inputs
first_of roles Work = roles.inputs + roles.outputs
first_of roles Borrowed = roles.inputs + roles.outputs + roles.work

-- the role of a line
abbrev pub role_at : Roles → ℕ → Role
role_at roles line =
    if nat_lt line (first_of roles Output) then Input
    else (if nat_lt line (first_of roles Work) then Output
    else (if nat_lt line (first_of roles Borrowed) then Work
    else Borrowed))

-- the number of a line among the lines of its role
abbrev pub number_at : Roles → ℕ → ℕ
number_at roles line = line - first_of roles (role_at roles line)

-- the roles of a plan's lines
abbrev pub roles_of : LaidView → Roles
roles_of laid =
    record {
      inputs = laid.inputs;
      outputs = laid.outputs;
      work = laid.work;
      borrowed = laid.borrowed;
    }

-- the roles of a plan's lines before its gates are split: none is borrowed
abbrev pub roles_of_plan : PlannedView → Roles
roles_of_plan p =
    record { inputs = p.inputs; outputs = p.outputs; work = p.work; borrowed = 0 }

-- ---- sizes

-- the number of Toffoli gates, lines times gates, and the number of lines
abbrev pub size_of : CircuitView → Size
size_of c = record {
  toffoli = (counts_of c.gates).ccx;
  area = c.lines * length c.gates;
  lines = c.lines;
}

-- ---- clean circuits

-- what the output lines may hold before the gates
abbrev pub MayHold : Start → List Bool → Type 0
MayHold Any held = ⊤
MayHold Zero held = held ≡ zeros (length held)

-- what they may hold under each plan
abbrev pub start_of : Plan → Start
start_of Auto = Any
start_of Compact = Zero
start_of Eager = Any
start_of Lean = Any
start_of Pebble = Any
start_of Shallow = Any

-- bits that are added to those that lines hold
abbrev pub added : List Bool → List Bool → List Bool
added held bits = zip2 xor held bits

-- the gates take this input, these bits on the output lines, zeros on the work lines, and these
-- bits on the borrowed lines to the input, those bits with the outputs added to them, zeros, and
-- the same bits
pub record AddsOutput (roles : Roles) (gates : List GateView)
    (input held outputs borrowed : List Bool) : Type 0 where
  pub mapped :
      line_map gates (input ++ (held ++ (zeros roles.work ++ borrowed)))
      ≡ input ++ (added held outputs ++ (zeros roles.work ++ borrowed))

-- What a plan promises: the program has an output for each output line, and on every input,
-- whatever the output lines hold that they may, and whatever the borrowed lines hold, the gates add
-- its value to the output lines, and leave all other lines as they are.
pub record AddsOutputs (start : Start) (roles : Roles) (gates : List GateView)
    (value : List Bool → List Bool) : Type 0 where
  pub size : (input : List Bool) → length input ≡ roles.inputs
      → length (value input) ≡ roles.outputs
  pub adds : (input held borrowed : List Bool) → length input ≡ roles.inputs
      → length held ≡ roles.outputs → MayHold start held → length borrowed ≡ roles.borrowed
      → AddsOutput roles gates input held (value input) borrowed

-- the gates take this input, zeros on the output and work lines, and these bits on the borrowed
-- lines to the input, these outputs, zeros on the work lines, and the same bits
pub record PutsOutputs (roles : Roles) (gates : List GateView)
    (input outputs borrowed : List Bool) : Type 0 where
  pub mapped :
      line_map gates (input ++ (zeros roles.outputs ++ (zeros roles.work ++ borrowed)))
      ≡ input ++ (outputs ++ (zeros roles.work ++ borrowed))

-- on every input, whatever the borrowed lines hold, the gates put its value on the output lines,
-- and leave all other lines as they are
pub record MapsCleanly (roles : Roles) (gates : List GateView)
    (value : List Bool → List Bool) : Type 0 where
  pub puts : (input borrowed : List Bool) → length input ≡ roles.inputs
      → length borrowed ≡ roles.borrowed
      → PutsOutputs roles gates input (value input) borrowed

-- The law: gates that add their outputs put them on output lines that hold zeros.
abbrev pub AddedOutputsArePut : Type 0
AddedOutputsArePut =
    (start : Start) (roles : Roles) (gates : List GateView) (value : List Bool → List Bool)
    → AddsOutputs start roles gates value
    → MapsCleanly roles gates value

-- ---- circuits in place

-- the gates take this input, zeros on the output and work lines, and these bits on the borrowed
-- lines to these outputs, zeros on the work lines, and the same bits
pub record ReplacesInput (roles : Roles) (gates : List GateView)
    (input outputs borrowed : List Bool) : Type 0 where
  pub mapped :
      line_map gates (input ++ (zeros roles.outputs ++ (zeros roles.work ++ borrowed)))
      ≡ outputs ++ (zeros roles.work ++ borrowed)

-- the program has an output for each input line and each output line, and on every input, whatever
-- the borrowed lines hold, the gates put its value on these lines, and leave all others as they are
pub record ReplacesInputs (roles : Roles) (gates : List GateView)
    (value : List Bool → List Bool) : Type 0 where
  pub size : (input : List Bool) → length input ≡ roles.inputs
      → length (value input) ≡ roles.inputs + roles.outputs
  pub replaces : (input borrowed : List Bool) → length input ≡ roles.inputs
      → length borrowed ≡ roles.borrowed
      → ReplacesInput roles gates input (value input) borrowed

-- the gates put the outputs there
abbrev pub PlacesOutputs : Placing → Roles → List GateView → (List Bool → List Bool) → Type 0
PlacesOutputs (Added start) roles gates value = AddsOutputs start roles gates value
PlacesOutputs InPlace roles gates value = ReplacesInputs roles gates value

-- ---- plans within a budget

-- the plan has n inputs and o outputs, and its other lines are work lines
pub record HasPorts (n o : ℕ) (p : PlannedView) : Type 0 where
  pub inputs : p.inputs ≡ n
  pub outputs : p.outputs ≡ o
  pub lines : p.circuit.lines ≡ n + o + p.work

-- its lines, with the borrowed ones, and the weights of its gates are within the budget
pub record IsInBudget (b : BudgetView) (p : PlannedView) : Type 0 where
  pub lines : p.circuit.lines + b.borrow ≤ b.lines
  pub gates : weight_in p.circuit.gates ≤ b.gates

-- A plan of narrow gates within a budget: it has n inputs and o outputs, and adds this value of its
-- input to whatever the output lines may hold.
pub record IsNarrowPlan (start : Start) (n o : ℕ) (value : List Bool → List Bool)
    (b : BudgetView) (p : PlannedView) : Type 0 where
  pub ports : HasPorts n o p
  pub clean : AddsOutputs start (roles_of_plan p) p.circuit.gates value
  pub within : IsInBudget b p
  pub narrow : AreNarrow p.circuit.gates

-- the budget has a line for each of so many inputs and outputs, and for each borrowed bit
abbrev pub HasPortLines : ℕ → BudgetView → Type 0
HasPortLines ports b = ports + b.borrow ≤ b.lines

-- how many lines a refused plan wants: one for each input, output and borrowed bit where that
-- passes the budget, and otherwise one more than the budget has
abbrev pub wanted_lines : ℕ → BudgetView → ℕ
wanted_lines ports b =
    if nat_lt b.lines (ports + b.borrow) then ports + b.borrow else b.lines + 1

-- ---- borrowed lines

-- these roles with so many borrowed lines
abbrev pub with_borrowed : Roles → ℕ → Roles
with_borrowed roles count = record roles { borrowed = count }

-- The law: gates that add their outputs without borrowed lines do so beside any number of them,
-- which they do not use.
abbrev pub CleanCircuitsBorrow : Type 0
CleanCircuitsBorrow =
    (start : Start) (roles : Roles) (gates : List GateView) (value : List Bool → List Bool)
    (count : ℕ)
    → AreGatesOn (lines_in (with_borrowed roles 0)) gates
    → AddsOutputs start (with_borrowed roles 0) gates value
    → AddsOutputs start (with_borrowed roles count) gates value

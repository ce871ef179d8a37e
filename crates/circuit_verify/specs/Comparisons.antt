-- A circuit beside the program that it is to compute, and what it is for the two to agree.
use Rattle.std.specs.Prelude.{ℕ, ◌+◌, ◌-◌, ◌≡◌, Bool, true, List, ◌++◌, length, sum, take, drop, map, ⊤}
use Rattle.list_facts.specs.Bits.{bit_of, zeros}
use Rattle.list_facts.specs.Lists.{below}
use Rattle.revs_tape.specs.Measures.{outputs_of, writes_of}
use Rattle.revs_tape.specs.Tapes.{TapeView, outputs_on}
use Rattle.revs_tape.specs.VariableOrders.{variable_order}
use Rattle.claim_check.specs.Measures.{node_function, write_function}
use Rattle.claim_check.specs.Settled.{SettledView, settled_outputs}
use Rattle.mct_circuit.specs.Gates.{CircuitView, GateView}
use Rattle.circuit_plans.specs.declared.roles.Placing.{Placing}
use Rattle.circuit_plans.specs.declared.roles.Placing.TheVariants.{Added, InPlace}
use Rattle.circuit_plans.specs.declared.roles.Roles.{Roles}
use Rattle.circuit_plans.specs.declared.roles.Start.{Start}
use Rattle.circuit_plans.specs.declared.roles.Start.TheVariants.{Any, Zero}
use Rattle.circuit_plans.specs.Plans.{AddsOutput, MayHold, ReplacesInput, added}

-- ---- programs

-- A program by its functions: the widths of its parameters, its steps and its outputs, each by its
-- bit on an input. The steps are the nodes of a settled graph, or the writes of a tape.
pub record Specification : Type 0 where
  pub params : List ℕ
  pub steps : ℕ
  pub step : ℕ → List Bool → Bool
  pub outputs : ℕ
  pub value : List Bool → List Bool

abbrev pub of_settled : List ℕ → SettledView → Specification
of_settled params s = record {
  params = params;
  steps = length s.nodes;
  step = node_function s;
  outputs = length s.outputs;
  value = settled_outputs s;
}

abbrev pub of_tape : TapeView → Specification
of_tape t = record {
  params = t.params;
  steps = writes_of t;
  step = write_function t;
  outputs = outputs_of t;
  value = outputs_on t;
}

-- a circuit, the program that it is to compute, what is assumed of the inputs, where the circuit
-- puts the outputs, and how many of its lines are borrowed; the premise is a program of one
-- output
pub record Comparison : Type 0 where
  pub program : Specification
  pub premise : Specification
  pub circuit : CircuitView
  pub placing : Placing
  pub borrow : ℕ

-- a program, under a premise, beside a circuit, which puts the outputs there, with so many
-- borrowed lines
abbrev pub beside : Specification → Specification → CircuitView → Placing → ℕ → Comparison
beside program premise circuit placing borrow = record {
  program = program;
  premise = premise;
  circuit = circuit;
  placing = placing;
  borrow = borrow;
}

-- ---- inputs that are looked at: those on which the output of the premise is 1

abbrev pub looked_by : Specification → List Bool → Bool
looked_by premise input = bit_of (premise.value input) 0

abbrev pub looked : Comparison → List Bool → Bool
looked q input = looked_by q.premise input

-- ---- lines: those of the inputs come first, then the output lines, the work lines and the
-- borrowed ones

abbrev pub inputs_in : Comparison → ℕ
inputs_in q = sum q.program.params

-- how many output lines there are for so many inputs and outputs: one for each output, and in place
-- one for each output beyond the number of inputs
abbrev pub lines_for : Placing → ℕ → ℕ → ℕ
lines_for (Added start) inputs outputs = outputs
lines_for InPlace inputs outputs = outputs - inputs

abbrev pub output_lines : Comparison → ℕ
output_lines q = lines_for q.placing (inputs_in q) q.program.outputs

-- the least number of lines: the input lines, the output lines and the borrowed ones
abbrev pub least_lines : Comparison → ℕ
least_lines q = inputs_in q + output_lines q + q.borrow

abbrev pub work_lines : Comparison → ℕ
work_lines q = q.circuit.lines - least_lines q

abbrev pub roles_in : Comparison → Roles
roles_in q = record {
  inputs = inputs_in q;
  outputs = output_lines q;
  work = work_lines q;
  borrowed = q.borrow;
}

-- the program has an output for each output line, and on every input that is looked at, whatever
-- the output lines hold that they may, and whatever the borrowed lines hold, the gates add its
-- value to the output lines, and leave all other lines as they are
pub record AddsLooked (looks : List Bool → Bool) (start : Start) (roles : Roles)
    (gates : List GateView) (value : List Bool → List Bool) : Type 0 where
  pub size : (input : List Bool) → length input ≡ roles.inputs
      → length (value input) ≡ roles.outputs
  pub adds : (input held borrowed : List Bool) → length input ≡ roles.inputs → looks input ≡ true
      → length held ≡ roles.outputs → MayHold start held → length borrowed ≡ roles.borrowed
      → AddsOutput roles gates input held (value input) borrowed

-- the program has an output for each input line and each output line, and on every input that is
-- looked at, whatever the borrowed lines hold, the gates put its value on these lines, and leave
-- all others as they are
pub record ReplacesLooked (looks : List Bool → Bool) (roles : Roles) (gates : List GateView)
    (value : List Bool → List Bool) : Type 0 where
  pub size : (input : List Bool) → length input ≡ roles.inputs
      → length (value input) ≡ roles.inputs + roles.outputs
  pub replaces : (input borrowed : List Bool) → length input ≡ roles.inputs
      → looks input ≡ true → length borrowed ≡ roles.borrowed
      → ReplacesInput roles gates input (value input) borrowed

-- on every input that is looked at, the gates put the outputs there
abbrev pub PlacesLooked : (List Bool → Bool) → Placing → Roles → List GateView
    → (List Bool → List Bool) → Type 0
PlacesLooked looks (Added start) roles gates value = AddsLooked looks start roles gates value
PlacesLooked looks InPlace roles gates value = ReplacesLooked looks roles gates value

-- on every input that is looked at, whatever the output lines hold that they may, and whatever the
-- borrowed lines hold, the circuit puts the program's outputs where they belong, and leaves all
-- other lines as they were, the work lines at 0
abbrev pub Agrees : Comparison → Type 0
Agrees q = PlacesLooked (looked q) q.placing (roles_in q) q.circuit.gates q.program.value

-- ---- variables: the inputs in their order, then the output lines where they may hold any bits,
-- and then the borrowed lines

-- how many of so many output lines have a variable
abbrev pub output_variables : Placing → ℕ → ℕ
output_variables (Added Any) lines = lines
output_variables (Added Zero) lines = 0
output_variables InPlace lines = 0

-- how many lines behind those of the inputs have one
abbrev pub variables_behind : Comparison → ℕ
variables_behind q = output_variables q.placing (output_lines q) + q.borrow

abbrev pub variables_in : Comparison → ℕ
variables_in q = inputs_in q + variables_behind q

-- bits for the inputs, parameter by parameter, then for the output lines that have variables, and
-- then for the borrowed lines
abbrev pub AreBitsFor : Comparison → List Bool → Type 0
AreBitsFor q bits = length bits ≡ variables_in q

-- the order of the variables, as places of such bits
abbrev pub order_in : Comparison → List ℕ
order_in q =
    variable_order q.program.params ++ map (λ k. inputs_in q + k) (below (variables_behind q))

abbrev pub input_bits : Comparison → List Bool → List Bool
input_bits q bits = take (inputs_in q) bits

-- whether the input of the bits is looked at
abbrev pub looked_on : Comparison → List Bool → Bool
looked_on q bits = looked q (input_bits q bits)

-- what the output lines hold before the gates, by the bits behind those of the inputs
abbrev pub held_by : Placing → ℕ → List Bool → List Bool
held_by (Added Any) lines behind = take lines behind
held_by (Added Zero) lines behind = zeros lines
held_by InPlace lines behind = zeros lines

abbrev pub output_bits : Comparison → List Bool → List Bool
output_bits q bits = held_by q.placing (output_lines q) (drop (inputs_in q) bits)

abbrev pub borrowed_bits : Comparison → List Bool → List Bool
borrowed_bits q bits = drop (output_variables q.placing (output_lines q)) (drop (inputs_in q) bits)

-- the bits of the lines before the gates
abbrev pub start_on : Comparison → List Bool → List Bool
start_on q bits =
    input_bits q bits ++ (output_bits q bits ++ (zeros (work_lines q) ++ borrowed_bits q bits))

-- the bits that the input lines and the output lines should have behind the gates: the outputs are
-- added to what the output lines hold, or take the place of the inputs
abbrev pub put_by : Placing → (input held outputs : List Bool) → List Bool
put_by (Added start) input held outputs = input ++ added held outputs
put_by InPlace input held outputs = outputs

-- the outputs are added to what the output lines hold
abbrev pub IsAdded : Placing → Type 0
IsAdded (Added start) = ⊤
IsAdded InPlace = ⊥

abbrev pub wanted_ports : Comparison → List Bool → List Bool
wanted_ports q bits =
    put_by q.placing (input_bits q bits) (output_bits q bits) (q.program.value (input_bits q bits))

-- the bits that the lines should have behind the gates
abbrev pub wanted_on : Comparison → List Bool → List Bool
wanted_on q bits = wanted_ports q bits ++ (zeros (work_lines q) ++ borrowed_bits q bits)

-- `bench`: the sizes of an adder's program, and of its compiled circuit.
use Rattle.std.specs.Prelude.{◌≡◌, ℕ, List, ◌++◌, length, codes, None, [], ◌∷◌}
use Rattle.command_answers.specs.Outcomes.{Promise, budget_promise}
use Rattle.command_answers.specs.declared.fault.Fault.{Fault}
use Rattle.command_answers.specs.Lines.{number_line}
use Rattle.circuit_plans.specs.declared.roles.Roles.{Roles}
use Rattle.circuit_plans.specs.Plans.{lines_in}
use Rattle.mct_circuit.specs.Gates.{GateView}
use Rattle.mct_circuit.specs.Sizes.{depth_of}
use Rattle.program_commands.specs.declared.bench.BenchSizes.{BenchSizes}
use Rattle.program_commands.specs.Compile.{HasCircuit, HasFittingRow, PassesBudget}
use Rattle.arith_templates.specs.Adder.{adder_text}
use Rattle.revs_tape.specs.Measures.{HasWidth, inputs_of, outputs_of, writes_of}
use Rattle.revs_tape.specs.Tapes.{TapeView}
use Rattle.revc_words.specs.Words.{OrderView}

-- these are the numbers of inputs, outputs and writes of a tape and its width, and the numbers of
-- lines and gates of a circuit and its depth
pub record AreSizesOf (tape : TapeView) (roles : Roles) (gates : List GateView)
    (sizes : BenchSizes) : Type 0 where
  pub inputs : sizes.inputs ≡ inputs_of tape
  pub outputs : sizes.outputs ≡ outputs_of tape
  pub writes : sizes.writes ≡ writes_of tape
  pub width : HasWidth tape sizes.width
  pub lines : sizes.lines ≡ lines_in roles
  pub count : sizes.gates ≡ length gates
  pub depth : sizes.depth ≡ depth_of gates

-- the lines of the circuit's sizes
abbrev pub circuit_lines : BenchSizes → List ℕ
circuit_lines sizes =
    (number_line (codes "lines ") sizes.lines ++ number_line (codes "gates ") sizes.gates)
    ++ number_line (codes "depth ") sizes.depth

-- seven lines
abbrev pub bench_text : BenchSizes → List ℕ
bench_text sizes =
    (number_line (codes "inputs ") sizes.inputs ++ number_line (codes "outputs ") sizes.outputs)
    ++ ((number_line (codes "writes ") sizes.writes ++ number_line (codes "width ") sizes.width)
    ++ circuit_lines sizes)

-- the text of the adder of so many bits has a circuit that the order allows, and these are the
-- lines of the sizes of its tape and of the gates
pub record IsBenched (order : OrderView) (written : List ℕ) : Type 0 where
  pub tape : TapeView
  pub roles : Roles
  pub gates : List GateView
  pub circuit : HasCircuit order (adder_text order.number) tape roles gates
  pub sizes : BenchSizes
  pub are : AreSizesOf tape roles gates sizes
  pub lines : written ≡ bench_text sizes

-- what is written, whatever is on the source
abbrev pub Gives : OrderView → List ℕ → List ℕ → Type 0
Gives order text written = IsBenched order written

-- why nothing is: the circuit of the adder passes a budget; its text is never refused, and no claim
-- stops it
abbrev pub IsCause : OrderView → List ℕ → Fault → Type 0
IsCause order text fault = PassesBudget order (adder_text order.number) fault

-- where something is, unless memory or a device is wanting: where some row of the budget numbers
-- that the order allows fits the adder
abbrev pub Serves : OrderView → List ℕ → Type 0
Serves order text = HasFittingRow order (adder_text order.number)

abbrev pub promise : Promise
promise = budget_promise None (6 ∷ 7 ∷ []) Gives IsCause Serves

-- `stat`: the counts and the depth of a circuit.
use Rattle.std.specs.Prelude.{◌≡◌, ℕ, List, ◌++◌, length, codes, Some, [], ◌∷◌}
use Rattle.command_answers.specs.Outcomes.{Promise, exact_promise}
use Rattle.mct_circuit.specs.declared.size.Counts.{Counts}
use Rattle.mct_circuit.specs.Sizes.{counts_of, depth_of}
use Rattle.revc_words.specs.declared.order.Format.{Format}
use Rattle.revc_words.specs.Words.{OrderView}
use Rattle.command_answers.specs.Lines.{number_line}
use Rattle.command_answers.specs.declared.fault.Fault.{Fault}
use Rattle.command_answers.specs.declared.fault.Fault.TheVariants.{Circuit}
use Rattle.circuit_commands.specs.declared.stat.Sizes.{Sizes}
use Rattle.circuit_commands.specs.Circuits.{ReadCircuit, Means, IsCircuitRefusal, circuit_limit}

-- the number of lines, the number of gates, that of each kind, and the depth
abbrev pub sizes_of : ReadCircuit → Sizes
sizes_of circuit = record {
  lines = length circuit.constants;
  gates = length circuit.gates;
  counts = counts_of circuit.gates;
  depth = depth_of circuit.gates;
}

-- the lines of the flips: with no control, with one, two and more
abbrev pub flips_text : Counts → List ℕ
flips_text counts =
    (number_line (codes "x ") counts.x ++ number_line (codes "cx ") counts.cx)
    ++ (number_line (codes "ccx ") counts.ccx ++ number_line (codes "wide ") counts.wide)

-- eight lines
abbrev pub stat_text : Sizes → List ℕ
stat_text sizes =
    (number_line (codes "lines ") sizes.lines ++ number_line (codes "gates ") sizes.gates)
    ++ (flips_text sizes.counts
    ++ (number_line (codes "swap ") sizes.counts.swap ++ number_line (codes "depth ") sizes.depth))

-- the text means a circuit, and these are the lines of its sizes
pub record IsMeasured (from : Format) (text written : List ℕ) : Type 0 where
  pub circuit : ReadCircuit
  pub means : Means from text circuit
  pub lines : written ≡ stat_text (sizes_of circuit)

-- what is written
abbrev pub Gives : OrderView → List ℕ → List ℕ → Type 0
Gives order text written = IsMeasured order.from text written

-- why nothing is
abbrev pub IsCause : OrderView → List ℕ → Fault → Type 0
IsCause order text (Circuit refusal) = IsCircuitRefusal order.from text refusal
IsCause order text _ = ⊥

-- where something is, unless memory or a device is wanting: the text means a circuit
abbrev pub Serves : OrderView → List ℕ → Type 0
Serves order text = (circuit : ReadCircuit) × Means order.from text circuit

abbrev pub promise : Promise
promise = exact_promise (Some circuit_limit) (8 ∷ []) Gives IsCause Serves

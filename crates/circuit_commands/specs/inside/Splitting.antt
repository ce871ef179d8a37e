-- What a circuit's split comes to, without its text.
use Rattle.std.specs.Prelude.{◌≡◌, ◌+◌, ◌<◌, ◌≤◌, ℕ, Bool, Ok, List, length}
use Rattle.mct_circuit.specs.Gates.{CircuitView, GateView, AreGatesOn, AreNarrow}
use Rattle.circuit_plans.specs.declared.plan.TheConstants.{MOST_LINES, MOST_GATES}
use Rattle.revc_words.specs.declared.order.Format.{Format}
use Rattle.command_answers.specs.declared.fault.Fault.{Fault}
use Rattle.command_answers.specs.declared.fault.Fault.TheVariants.{Lines, Gates, Memory}
use Rattle.circuit_commands.specs.Circuits.{ReadCircuit, Means, line_count}
use Rattle.circuit_commands.specs.Convert.{HasManyGates, HasSplit, LacksLine, DoesTheSame, added_lines, converted}
use Rattle.circuit_commands.specs.Outcomes.{ConvertedView}

-- a circuit has a line, and keeps the limit of lines
pub record HasLines (circuit : ReadCircuit) : Type 0 where
  pub some : 1 ≤ line_count circuit
  pub few : line_count circuit ≤ MOST_LINES

-- narrow gates on their lines, within the limits of the formats; the added line is not the only one
pub record IsWritable (made : ConvertedView) : Type 0 where
  pub own : added_lines made.added < line_count made.circuit
  pub few : line_count made.circuit ≤ MOST_LINES
  pub garbage : length made.circuit.garbage ≡ line_count made.circuit
  pub narrow : AreNarrow made.circuit.gates
  pub placed : AreGatesOn (line_count made.circuit) made.circuit.gates
  pub few_gates : length made.circuit.gates ≤ MOST_GATES

-- these are the gates of the split list of at most so many, on the circuit's own lines or on one
-- more
pub record IsNarrowOf (most : ℕ) (circuit : ReadCircuit) (narrow : CircuitView) : Type 0 where
  pub added : Bool
  pub lines : narrow.lines ≡ line_count circuit + added_lines added
  pub split : HasSplit most circuit added (Ok narrow.gates)
  pub few_gates : length narrow.gates ≤ most
  pub same : DoesTheSame circuit added narrow.gates

-- narrow gates on a circuit's lines or on one more, within the limits of the formats
pub record IsOnLinesOf (circuit : ReadCircuit) (narrow : CircuitView) : Type 0 where
  pub added : Bool
  pub lines : narrow.lines ≡ line_count circuit + added_lines added
  pub few : narrow.lines ≤ MOST_LINES
  pub few_gates : length narrow.gates ≤ MOST_GATES

-- these gates with the circuit's marks, on its lines or on one more
pub record IsMarked (circuit : ReadCircuit) (narrow : CircuitView)
    (made : ConvertedView) : Type 0 where
  pub lines : narrow.lines ≡ line_count circuit + added_lines made.added
  pub are : made.circuit ≡ converted circuit made.added narrow.gates
  pub writable : IsWritable made

-- these gates, which do what the circuit's do, with its marks
pub record IsPlaced (circuit : ReadCircuit) (gates : List GateView)
    (made : ConvertedView) : Type 0 where
  pub are : made.circuit ≡ converted circuit made.added gates
  pub writable : IsWritable made
  pub same : DoesTheSame circuit made.added gates

-- what waits is the split list of at most so many gates, with the circuit's marks
pub record IsSplitOf (most : ℕ) (circuit : ReadCircuit) (made : ConvertedView) : Type 0 where
  pub gates : List GateView
  pub split : HasSplit most circuit made.added (Ok gates)
  pub placed : IsPlaced circuit gates made

-- the text means a circuit, and this is its split list of at most so many gates
pub record SplitsText (most : ℕ) (from : Format) (text : List ℕ) (made : ConvertedView)
    : Type 0 where
  pub circuit : ReadCircuit
  pub means : Means from text circuit
  pub split : IsSplitOf most circuit made

-- the circuit with other gates, which are made of its own
pub record IsRemade (Makes : (before gates : List GateView) → Type 0) (split made : ConvertedView)
    : Type 0 where
  pub gates : Makes split.circuit.gates made.circuit.gates
  pub are : made
      ≡ record split { circuit = record split.circuit { gates = made.circuit.gates } }
  pub writable : IsWritable made

-- the circuit has a split list of at most so many gates, on its own lines or on one more
pub record HasSomeSplit (most : ℕ) (circuit : ReadCircuit) : Type 0 where
  pub added : Bool
  pub gates : List GateView
  pub split : HasSplit most circuit added (Ok gates)

-- why there is none; memory is wanted only where there is one
abbrev pub IsSplitFault : (most : ℕ) → ReadCircuit → Fault → Type 0
IsSplitFault most circuit (Lines need limit) = LacksLine most circuit need limit
IsSplitFault most circuit (Gates limit) = HasManyGates most circuit limit
IsSplitFault most circuit (Memory _) = HasSomeSplit most circuit
IsSplitFault most circuit _ = ⊥

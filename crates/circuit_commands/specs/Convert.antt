-- `convert`: the file of the narrow gates in place of a circuit's gates, on its lines or on one
-- more.
use Rattle.std.specs.Prelude.{◌≡◌, ℕ, ◌+◌, ◌<◌, Bool, true, false, Result, Ok, Err, List, [], ◌∷◌, ◌++◌, length, Some}
use Rattle.command_answers.specs.Outcomes.{Promise, exact_promise}
use Rattle.mct_circuit.specs.Gates.{GateView, AreNarrow, line_map}
use Rattle.gate_split.specs.declared.fault.SplitFault.{SplitFault}
use Rattle.gate_split.specs.declared.fault.SplitFault.TheVariants as splits
use Rattle.circuit_plans.specs.declared.plan.TheConstants.{MOST_LINES, MOST_GATES}
use Rattle.gate_split.specs.Split.{IsSplit, WantsIdle}
use Rattle.real_format.specs.declared.file.Mark.TheVariants.{Free}
use Rattle.real_format.specs.Converted as real
use Rattle.qasm_format.specs.Converted as qasm
use Rattle.revc_words.specs.declared.order.Format.{Format}
use Rattle.revc_words.specs.declared.order.Format.TheVariants.{Real, Qasm}
use Rattle.revc_words.specs.Words.{OrderView}
use Rattle.command_answers.specs.declared.fault.Fault.{Fault}
use Rattle.command_answers.specs.declared.fault.Fault.TheVariants.{Circuit, Lines, Gates}
use Rattle.circuit_commands.specs.Circuits.{ReadCircuit, marked, Means, MeansIn, IsCircuitRefusal, line_count, unmarked, circuit_limit}

-- ---- the split list, of at most so many gates

-- on the circuit's own lines a gate wants an idle line
pub record WantsLine (most : ℕ) (circuit : ReadCircuit) : Type 0 where
  pub gate : ℕ
  pub none : WantsIdle (line_count circuit) most circuit.gates gate

-- what the split comes to on one line more, where the circuit's own lines are too few and there is
-- room for one
pub record HasWiderSplit (most : ℕ) (circuit : ReadCircuit)
    (answer : Result (List GateView) SplitFault) : Type 0 where
  pub wants : WantsLine most circuit
  pub room : line_count circuit < MOST_LINES
  pub split : IsSplit (line_count circuit + 1) most circuit.gates answer

-- what the split comes to on the circuit's own lines, or exactly where a gate wants an idle line,
-- on one more
abbrev pub HasSplit : (most : ℕ) → ReadCircuit → (added : Bool)
    → Result (List GateView) SplitFault → Type 0
HasSplit most circuit false answer = IsSplit (line_count circuit) most circuit.gates answer
HasSplit most circuit true answer = HasWiderSplit most circuit answer

-- a line is wanted where there are as many as there may be
pub record LacksLine (most : ℕ) (circuit : ReadCircuit) (need limit : ℕ) : Type 0 where
  pub wants : WantsLine most circuit
  pub full : line_count circuit ≡ MOST_LINES
  pub needs : need ≡ MOST_LINES + 1
  pub limit_is : limit ≡ MOST_LINES

-- the split list has more gates than it may have
pub record HasManyGates (most : ℕ) (circuit : ReadCircuit) (limit : ℕ) : Type 0 where
  pub added : Bool
  pub split : HasSplit most circuit added (Err splits.Gates)
  pub limit_is : limit ≡ most

-- ---- the circuit that is written

-- how many lines are added
abbrev pub added_lines : Bool → ℕ
added_lines false = 0
added_lines true = 1

-- these gates on a circuit's lines with their marks; a line that is added comes last, and has none
abbrev pub converted : ReadCircuit → (added : Bool) → List GateView → ReadCircuit
converted circuit false gates = record circuit { gates = gates }
converted circuit true gates =
    marked (circuit.constants ++ Free ∷ []) (circuit.garbage ++ false ∷ []) gates

-- the gates do to a circuit's lines what its own do, and leave a line that is added as it is
abbrev pub DoesTheSame : ReadCircuit → (added : Bool) → List GateView → Type 0
DoesTheSame circuit added gates =
    (bits more : List Bool) → length bits ≡ line_count circuit → length more ≡ added_lines added
    → line_map gates (bits ++ more) ≡ line_map circuit.gates bits ++ more

-- the text of the file of a circuit, whose last line was added or not
abbrev pub file_text : Format → ReadCircuit → (added : Bool) → List ℕ
file_text Real circuit added =
    real.converted_text circuit.constants circuit.garbage circuit.gates
file_text Qasm circuit added = qasm.converted_text (line_count circuit) added circuit.gates

-- what a file of a format says of a circuit: OpenQASM leaves its marks out
abbrev pub said_in : Format → ReadCircuit → ReadCircuit
said_in Real circuit = circuit
said_in Qasm circuit = unmarked (line_count circuit) circuit.gates

-- These are the lines of the file of these gates in place of a circuit's, and by the meaning of the
-- format they mean them. The gates are narrow, and do to the circuit's lines what its own do.
pub record IsFileOf (to : Format) (circuit : ReadCircuit) (added : Bool) (gates : List GateView)
    (written : List ℕ) : Type 0 where
  pub lines : written ≡ file_text to (converted circuit added gates) added
  pub meaning : MeansIn to written (said_in to (converted circuit added gates))
  pub narrow : AreNarrow gates
  pub same : DoesTheSame circuit added gates

-- ---- a text's split list

-- the text means a circuit that wants a line more than there may be
pub record PassesLines (most : ℕ) (from : Format) (text : List ℕ) (need limit : ℕ) : Type 0 where
  pub circuit : ReadCircuit
  pub means : Means from text circuit
  pub lacks : LacksLine most circuit need limit

-- the text means a circuit whose split list has more gates than there may be
pub record PassesGates (most : ℕ) (from : Format) (text : List ℕ) (limit : ℕ) : Type 0 where
  pub circuit : ReadCircuit
  pub means : Means from text circuit
  pub many : HasManyGates most circuit limit

-- the text means a circuit that has a split list
pub record CanSplit (most : ℕ) (from : Format) (text : List ℕ) : Type 0 where
  pub circuit : ReadCircuit
  pub means : Means from text circuit
  pub added : Bool
  pub gates : List GateView
  pub split : HasSplit most circuit added (Ok gates)

-- why it has none
abbrev pub IsCause : (most : ℕ) → OrderView → List ℕ → Fault → Type 0
IsCause most order text (Circuit refusal) = IsCircuitRefusal order.from text refusal
IsCause most order text (Lines need limit) = PassesLines most order.from text need limit
IsCause most order text (Gates limit) = PassesGates most order.from text limit
IsCause most order text _ = ⊥

-- where it has one, a command serves: these bytes are what it gives
abbrev pub promise_within : (most : OrderView → ℕ) → (OrderView → List ℕ → List ℕ → Type 0)
    → Promise
promise_within most Gives =
    exact_promise (Some circuit_limit) (6 ∷ 7 ∷ 8 ∷ []) Gives
    (λ order. IsCause (most order) order)
    (λ order text. CanSplit (most order) order.from text)

-- which gates are made of a circuit, whose last line was added or not
abbrev pub Narrowing : Type 1
Narrowing = ReadCircuit → (added : Bool) → List GateView → Type 0

-- the text means a circuit, and this is the file of gates that are made of it so
pub record IsNarrowFile (Makes : Narrowing) (from to : Format) (text written : List ℕ)
    : Type 0 where
  pub circuit : ReadCircuit
  pub means : Means from text circuit
  pub added : Bool
  pub gates : List GateView
  pub made : Makes circuit added gates
  pub file : IsFileOf to circuit added gates written

-- ---- the command

-- these gates are the split list
abbrev pub IsSplitInto : Narrowing
IsSplitInto circuit added gates = HasSplit MOST_GATES circuit added (Ok gates)

-- what is written
abbrev pub Gives : OrderView → List ℕ → List ℕ → Type 0
Gives order text written = IsNarrowFile IsSplitInto order.from order.to text written

abbrev pub promise : Promise
promise = promise_within (λ order. MOST_GATES) Gives

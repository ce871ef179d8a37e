-- `verify`: that a circuit computes a program, for every input that meets the claims that are
-- taken for granted, whatever its output lines hold that they may, and whatever its borrowed lines
-- hold.
use Rattle.std.specs.Prelude.{◌≡◌, ◌⊎◌, ℕ, Bool, ◌+◌, ◌<◌, ◌≤◌, List, [], ◌∷◌, length, Some, codes}
use Rattle.claim_assumptions.specs.Assumptions.{premise}
use Rattle.circuit_commands.specs.declared.limits.TheConstants.{MOST_CIRCUIT_BYTES}
use Rattle.circuit_commands.specs.Circuits.{ReadCircuit, Means, IsCircuitRefusal, line_count}
use Rattle.circuit_verify.specs.Comparisons.{Comparison, beside, inputs_in, least_lines, of_tape, roles_in}
use Rattle.circuit_verify.specs.LineFunctions.{HasMore}
use Rattle.circuit_verify.specs.Verdicts.{DiffersFirst, HasEnoughLines, HasEnoughOutputs, HasFewOutputs}
use Rattle.circuit_verify.specs.Verdicts.{IsComparable, IsFirstWide, IsVerified}
use Rattle.command_answers.specs.Outcomes.{Promise}
use Rattle.command_answers.specs.declared.fault.CircuitRefusal.{CircuitRefusal}
use Rattle.command_answers.specs.declared.fault.CircuitRefusal.TheVariants as circuits
use Rattle.command_answers.specs.declared.fault.Fault.{Fault}
use Rattle.command_answers.specs.declared.fault.Fault.TheVariants.{Refused, Claim, Diagram, CircuitDiagram, Circuit, FewOutputs, FewLines, WideGate, Differs, Unsettled, NoInput, NoPart}
use Rattle.command_answers.specs.declared.fault.Refusal.TheVariants as refusals
use Rattle.command_answers.specs.declared.limit.TextLimit.{TextLimit}
use Rattle.program_texts.specs.Clean.{IsCleanCircuit}
use Rattle.program_texts.specs.Refusals.{IsRefusal}
use Rattle.program_texts.specs.Settling.{LeavesSettled, LeavesTape, StopsSettling}
use Rattle.revc_words.specs.Words.{OrderView}
use Rattle.revc_words.specs.declared.order.Way.{Way}
use Rattle.revc_words.specs.declared.order.Way.TheVariants as ways
use Rattle.revs_parser.specs.declared.limits.TheConstants.{MOST_BYTES}
use Rattle.revs_tape.specs.Tapes.{TapeView}
use Rattle.verify_command.specs.Parting.{HasNoPart, IsParted}
use Rattle.verify_command.specs.declared.limits.TheConstants.{MOST_SOURCE_BYTES}

-- the limit of a source with a program and a circuit
abbrev pub source_limit : TextLimit
source_limit = record { bytes = MOST_SOURCE_BYTES; fault = Circuit circuits.TooLong }

-- ---- the parts of a source

-- the source is within its limit and parted, and this holds of its program and its circuit
pub record HasParts (source : List ℕ) (OfParts : List ℕ → List ℕ → Type 0) : Type 0 where
  pub short : length source ≤ MOST_SOURCE_BYTES
  pub program : List ℕ
  pub circuit : List ℕ
  pub parted : IsParted source program circuit
  pub holds : OfParts program circuit

-- the circuit that was read beside the tape of the program, which puts the outputs where the order
-- says, with its borrowed lines, on the inputs on which the claims hold that the order assumes
abbrev pub comparison_of : OrderView → TapeView → ReadCircuit → Comparison
comparison_of order tape circuit =
    beside (of_tape tape) (of_tape (premise order.assume tape))
    (record {
      lines = line_count circuit;
      limit = length circuit.gates;
      gates = circuit.gates;
    })
    order.outputs order.borrow

-- the claims of the program hold where the assumed ones do, the text means a circuit, and this
-- holds of the two
pub record Compares (order : OrderView) (OfTwo : Comparison → Type 0) (program circuit : List ℕ)
    : Type 0 where
  pub tape : TapeView
  pub settled : LeavesSettled program order.assume order.nodes tape
  pub read : ReadCircuit
  pub means : Means order.from circuit read
  pub holds : OfTwo (comparison_of order tape read)

-- ---- what is written

-- The claims of the program hold where the assumed ones do, and the circuit agrees with it there,
-- within the limit of lines: it is a clean circuit for the program that puts the outputs where the
-- order says, whose inputs come first, then the output lines, the work lines and the borrowed ones.
pub record AreVerified (order : OrderView) (program circuit : List ℕ) : Type 0 where
  pub compared : Compares order IsVerified program circuit
  pub clean : IsCleanCircuit compared.settled.left.program order.assume order.outputs
      order.borrow (roles_in (comparison_of order compared.tape compared.read))
      compared.read.gates

abbrev pub verified_text : List ℕ
verified_text = codes "verified\n"

abbrev pub Gives : OrderView → List ℕ → List ℕ → Type 0
Gives order source written = HasParts source (AreVerified order) × (written ≡ verified_text)

-- ---- why nothing is

-- the gate with this number, counted from 1, is the first that is no flip with at most two
-- controls, all positive
pub record HasWideGate (q : Comparison) (number : ℕ) : Type 0 where
  pub outputs : HasEnoughOutputs q
  pub enough : HasEnoughLines q
  pub before : ℕ
  pub first : IsFirstWide q.circuit.gates before
  pub count : number ≡ before + 1

-- the line with this number, counted from 1, is the first that differs for some bits, and these are
-- the least of them
pub record DiffersAt (q : Comparison) (number : ℕ) (bits : List Bool) : Type 0 where
  pub comparable : IsComparable q
  pub before : ℕ
  pub first : DiffersFirst q before bits
  pub count : number ≡ before + 1

-- by this way a circuit is compared by diagrams, at once or where sums leave it unsettled
abbrev pub HasDiagrams : Way → Type 0
HasDiagrams ways.Diagrams = Unit {0}
HasDiagrams ways.Sums = ⊥
HasDiagrams ways.Both = Unit {0}

-- Why a circuit is not verified: the program has too few outputs for its inputs' place; the circuit
-- has too few lines or a wide gate; by diagrams, the two have more functions than the nodes, or it
-- differs; by sums alone, it is not settled.
abbrev pub StopsComparing : OrderView → Fault → Comparison → Type 0
StopsComparing order (FewOutputs inputs outputs) q =
    HasFewOutputs q × (inputs ≡ inputs_in q) × (outputs ≡ q.program.outputs)
StopsComparing order (FewLines lines need) q =
    HasEnoughOutputs q × (lines ≡ q.circuit.lines) × (lines < need) × (need ≡ least_lines q)
StopsComparing order (WideGate number) q = HasWideGate q number
StopsComparing order (CircuitDiagram limit) q =
    HasDiagrams order.way × IsComparable q × HasMore q order.nodes × (limit ≡ order.nodes)
StopsComparing order (Differs number bits) q = HasDiagrams order.way × DiffersAt q number bits
StopsComparing order Unsettled q = (order.way ≡ ways.Sums) × IsComparable q
StopsComparing order _ q = ⊥

-- the program leaves a tape, and the circuit is refused
abbrev pub IsRefusedCircuit : OrderView → CircuitRefusal → List ℕ → List ℕ → Type 0
IsRefusedCircuit order refusal program circuit =
    (tape : TapeView) × LeavesTape program tape × IsCircuitRefusal order.from circuit refusal

-- the circuit means one, and no input meets the assumed claims, or a claim of the program stops
abbrev pub StopsAtClaim : OrderView → Fault → List ℕ → List ℕ → Type 0
StopsAtClaim order fault program circuit =
    (read : ReadCircuit) × Means order.from circuit read
    × StopsSettling program order.assume order.nodes fault

-- Why the parts of a source are not verified, in this order: the length of the program, that of the
-- circuit, their texts, the claims, and the comparison.
abbrev pub StopsParts : OrderView → Fault → List ℕ → List ℕ → Type 0
StopsParts order (Refused refusals.TooLong) program circuit = MOST_BYTES < length program
StopsParts order (Circuit circuits.TooLong) program circuit =
    (length program ≤ MOST_BYTES) × (MOST_CIRCUIT_BYTES < length circuit)
StopsParts order (Refused (refusals.At kind at)) program circuit =
    (length circuit ≤ MOST_CIRCUIT_BYTES) × IsRefusal program (refusals.At kind at)
StopsParts order (Circuit refusal) program circuit =
    IsRefusedCircuit order refusal program circuit
StopsParts order NoInput program circuit = StopsAtClaim order NoInput program circuit
StopsParts order (Claim number at bits) program circuit =
    StopsAtClaim order (Claim number at bits) program circuit
StopsParts order (Diagram number at limit) program circuit =
    StopsAtClaim order (Diagram number at limit) program circuit
StopsParts order fault program circuit =
    Compares order (StopsComparing order fault) program circuit

-- the source is too long, or has no parting line, or its parts are not verified
abbrev pub IsCause : OrderView → List ℕ → Fault → Type 0
IsCause order source NoPart = (length source ≤ MOST_SOURCE_BYTES) × HasNoPart source
IsCause order source (Circuit circuits.TooLong) =
    (MOST_SOURCE_BYTES < length source)
    ⊎ HasParts source (StopsParts order (Circuit circuits.TooLong))
IsCause order source fault = HasParts source (StopsParts order fault)

-- ---- where something is

-- the circuit agrees, and the two have no more functions than the nodes of diagrams
pub record IsVerifiedWithin (nodes : ℕ) (q : Comparison) : Type 0 where
  pub verified : IsVerified q
  pub few : ¬ HasMore q nodes

abbrev pub Serves : OrderView → List ℕ → Type 0
Serves order source =
    HasDiagrams order.way × HasParts source (Compares order (IsVerifiedWithin order.nodes))

-- ---- what is promised

-- The fault leaves open whether the circuit agrees. The functions are counted for the steps of the
-- tape: fewer may be made, so a circuit with more may have another end; and sums may settle any
-- circuit that agrees.
abbrev pub LeavesOpen : Fault → Type 0
LeavesOpen (CircuitDiagram limit) = Unit {0}
LeavesOpen Unsettled = Unit {0}
LeavesOpen fault = ⊥

abbrev pub LeavesNothingOpen : Fault → Type 0
LeavesNothingOpen (CircuitDiagram limit) = ⊥
LeavesNothingOpen Unsettled = ⊥
LeavesNothingOpen fault = Unit {0}

abbrev pub promise : Promise
promise = record {
  reads = Some source_limit;
  statuses = 3 ∷ 4 ∷ 5 ∷ 8 ∷ 13 ∷ 14 ∷ 15 ∷ 16 ∷ 17 ∷ 18 ∷ 20 ∷ [];
  Gives = Gives;
  IsCause = IsCause;
  Serves = Serves;
  IsExact = LeavesNothingOpen;
  MayPrecede = LeavesOpen;
}

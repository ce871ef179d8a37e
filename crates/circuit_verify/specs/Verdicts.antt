-- What is said of a circuit that is compared with a program.
use Rattle.std.specs.Prelude.{◌≡◌, ℕ, ◌<◌, ◌≤◌, Bool, true, List, ⊤}
use Rattle.list_facts.specs.Bits.{bit_of}
use Rattle.list_facts.specs.Lists.{IsFirstWithout}
use Rattle.revs_tape.specs.Tapes.{TapeView}
use Rattle.revs_tape.specs.VariableOrders.{IsBefore}
use Rattle.decision_diagram.specs.declared.node.DdFault.{DdFault}
use Rattle.decision_diagram.specs.declared.node.DdFault.TheVariants as dd
use Rattle.claim_check.specs.Settled.{SettledView, IsSettledOf}
use Rattle.mct_circuit.specs.Gates.{CircuitView, GateView, IsNarrow, AreNarrow, line_map}
use Rattle.circuit_verify.specs.declared.fault.NotComparable.{NotComparable}
use Rattle.circuit_verify.specs.declared.fault.NotComparable.TheVariants.{Outputs, Lines, Gate}
use Rattle.circuit_verify.specs.declared.fault.VerifyFault.{VerifyFault}
use Rattle.circuit_verify.specs.declared.fault.VerifyFault.TheVariants as faults
use Rattle.circuit_plans.specs.declared.roles.Placing.{Placing}
use Rattle.circuit_plans.specs.declared.roles.Placing.TheVariants.{Added, InPlace}
use Rattle.circuit_verify.specs.Comparisons.{Comparison, Agrees, AreBitsFor, beside, inputs_in, least_lines}
use Rattle.circuit_verify.specs.Comparisons.{looked_on, of_settled, of_tape, order_in, start_on, wanted_on}
use Rattle.circuit_verify.specs.LineFunctions.{HasMore}

-- ---- what can be compared

-- in place there is an output for each input line
abbrev pub FillsInputs : Placing → ℕ → ℕ → Type 0
FillsInputs (Added start) inputs outputs = ⊤
FillsInputs InPlace inputs outputs = inputs ≤ outputs

abbrev pub HasEnoughOutputs : Comparison → Type 0
HasEnoughOutputs q = FillsInputs q.placing (inputs_in q) q.program.outputs

-- the program has so few outputs that some inputs have none in their place
abbrev pub HasFewOutputs : Comparison → Type 0
HasFewOutputs q = (q.placing ≡ InPlace) × (q.program.outputs < inputs_in q)

-- the circuit has all input lines, output lines and borrowed lines
abbrev pub HasEnoughLines : Comparison → Type 0
HasEnoughLines q = least_lines q ≤ q.circuit.lines

-- the program has enough outputs and the circuit enough lines, and its gates are flips with at most
-- two controls, all positive
pub record IsComparable (q : Comparison) : Type 0 where
  pub outputs : HasEnoughOutputs q
  pub lines : HasEnoughLines q
  pub narrow : AreNarrow q.circuit.gates

-- the gate at this place, counted from 0, is the first that is no such flip
abbrev pub IsFirstWide : List GateView → ℕ → Type 0
IsFirstWide gates at = IsFirstWithout IsNarrow gates at

-- why the two cannot be compared: first the outputs, then the lines, then the gates
abbrev pub IsNotComparable : Comparison → NotComparable → Type 0
IsNotComparable q (Outputs inputs outputs) =
    HasFewOutputs q × (inputs ≡ inputs_in q) × (outputs ≡ q.program.outputs)
IsNotComparable q (Lines need) =
    HasEnoughOutputs q × (q.circuit.lines < need) × (need ≡ least_lines q)
IsNotComparable q (Gate gate) =
    HasEnoughOutputs q × HasEnoughLines q × IsFirstWide q.circuit.gates gate

-- ---- where the circuit differs

-- on these bits a line ends with the bit that it should have
abbrev pub IsRightOn : Comparison → ℕ → List Bool → Type 0
IsRightOn q line bits =
    bit_of (line_map q.circuit.gates (start_on q bits)) line ≡ bit_of (wanted_on q bits) line

-- these are bits for the variables, and their input is looked at
abbrev pub AreLookedBits : Comparison → List Bool → Type 0
AreLookedBits q bits = AreBitsFor q bits × (looked_on q bits ≡ true)

-- wherever the input is looked at, a line ends with the bit that it should have
abbrev pub IsRight : Comparison → ℕ → Type 0
IsRight q line = (bits : List Bool) → AreLookedBits q bits → IsRightOn q line bits

-- This line, counted from 0, is the first that is not always right, and these bits are the least on
-- which it is not, in the order of the variables and false before true, of those whose input is
-- looked at.
pub record DiffersFirst (q : Comparison) (line : ℕ) (bits : List Bool) : Type 0 where
  pub in_range : line < q.circuit.lines
  pub before : (earlier : ℕ) → earlier < line → IsRight q earlier
  pub are_bits : AreLookedBits q bits
  pub differs : ¬ IsRightOn q line bits
  pub least : (other : List Bool) → AreLookedBits q other → IsBefore (order_in q) other bits
      → IsRightOn q line other

-- ---- verdicts

-- the circuit can be compared, and agrees with the program
pub record IsVerified (q : Comparison) : Type 0 where
  pub comparable : IsComparable q
  pub agrees : Agrees q

-- why a circuit that can be compared is not verified
abbrev pub IsVerifyFault : Comparison → ℕ → VerifyFault → Type 0
IsVerifyFault q limit (faults.Diagram nodes) = IsComparable q × HasMore q limit × (nodes ≡ limit)
IsVerifyFault q limit (faults.Differs line bits) = IsComparable q × DiffersFirst q line bits
IsVerifyFault q limit (faults.Memory _) = IsComparable q

-- the fault of a diagram as that of a comparison
abbrev pub verify_fault : DdFault → VerifyFault
verify_fault (dd.Full nodes) = faults.Diagram nodes
verify_fault (dd.Memory _) = faults.Memory _

-- ---- laws

-- a program does not have both few and enough outputs, a circuit that is verified differs nowhere
-- and has no wide gate, and what is named is the only one
pub record EndsInOneWay (q : Comparison) : Type 0 where
  pub few_or_enough : HasFewOutputs q → HasEnoughOutputs q → ⊥
  pub no_gate : (gate : ℕ) → AreNarrow q.circuit.gates → IsFirstWide q.circuit.gates gate → ⊥
  pub one_gate : (gate other : ℕ) → IsFirstWide q.circuit.gates gate
      → IsFirstWide q.circuit.gates other → gate ≡ other
  pub no_difference : (line : ℕ) (bits : List Bool) → Agrees q → DiffersFirst q line bits → ⊥
  pub one_difference : (line other : ℕ) (bits others : List Bool)
      → DiffersFirst q line bits → DiffersFirst q other others
      → (line ≡ other) × (bits ≡ others)

-- The law: a comparison ends in one way.
abbrev pub ComparisonsEndInOneWay : Type 0
ComparisonsEndInOneWay = (q : Comparison) → EndsInOneWay q

-- what is said of the settled graphs of two tapes is said of the tapes
pub record IsSaidOfTapes (t a : TapeView) (s g : SettledView) (c : CircuitView)
    (placing : Placing) (borrow limit : ℕ) : Type 0 where
  pub not_comparable : (why : NotComparable)
      → IsNotComparable
      (beside (of_settled t.params s) (of_settled t.params g) c placing borrow) why
      → IsNotComparable (beside (of_tape t) (of_tape a) c placing borrow) why
  pub comparable : IsComparable
      (beside (of_settled t.params s) (of_settled t.params g) c placing borrow)
      → IsComparable (beside (of_tape t) (of_tape a) c placing borrow)
  pub verified : IsVerified
      (beside (of_settled t.params s) (of_settled t.params g) c placing borrow)
      → IsVerified (beside (of_tape t) (of_tape a) c placing borrow)
  pub refused : (fault : VerifyFault)
      → IsVerifyFault
      (beside (of_settled t.params s) (of_settled t.params g) c placing borrow) limit fault
      → IsVerifyFault (beside (of_tape t) (of_tape a) c placing borrow) limit fault

-- The law: what is said of settled graphs, of a program and of a premise, is said of their
-- tapes, whose steps are the writes.
abbrev pub SaidOfTapes : Type 0
SaidOfTapes = (t a : TapeView) (s g : SettledView) → IsSettledOf t s → IsSettledOf a g
    → (c : CircuitView) (placing : Placing) (borrow limit : ℕ)
    → IsSaidOfTapes t a s g c placing borrow limit

-- Line functions: what the steps of a program and the lines of a circuit hold, as functions of the
-- variables, and how many there are.
use Rattle.std.specs.Prelude.{◌≡◌, ℕ, ◌+◌, ◌<◌, ◌≤◌, Bool, ◌&&◌, List, length, take}
use Rattle.std.specs.List.{AllByRecursion}
use Rattle.list_facts.specs.Bits.{bit_of}
use Rattle.list_facts.specs.Lists.{AreApart}
use Rattle.revs_tape.specs.ClaimFunctions.{with_fixed}
use Rattle.mct_circuit.specs.Gates.{line_map}
use Rattle.circuit_verify.specs.Comparisons.{Comparison, AreBitsFor, variables_in, input_bits, order_in, start_on}
use Rattle.circuit_verify.specs.Comparisons.{looked_on, wanted_on}

-- what holds a bit: a step of the program or of the premise, a line after so many of the gates,
-- or a line as it should be behind all of them; after none of them an input line holds its input,
-- and an output line that has a variable and a borrowed line what they came with; and a line behind
-- all gates, and one as it should be, where the input is looked at, and 0 elsewhere
pub data Holder : Type 0 where
  Step : (step : ℕ) → Holder
  Assumed : (step : ℕ) → Holder
  Line : (gates line : ℕ) → Holder
  Wanted : (line : ℕ) → Holder
  Looked : (line : ℕ) → Holder
  LookedWanted : (line : ℕ) → Holder

abbrev pub IsHolder : Comparison → Holder → Type 0
IsHolder q (Step k) = k < q.program.steps
IsHolder q (Assumed k) = k < q.premise.steps
IsHolder q (Line gates line) = (gates ≤ length q.circuit.gates) × (line < q.circuit.lines)
IsHolder q (Wanted line) = line < q.circuit.lines
IsHolder q (Looked line) = line < q.circuit.lines
IsHolder q (LookedWanted line) = line < q.circuit.lines

-- the bit that is held
abbrev pub held_bit : Comparison → Holder → List Bool → Bool
held_bit q (Step k) bits = q.program.step k (input_bits q bits)
held_bit q (Assumed k) bits = q.premise.step k (input_bits q bits)
held_bit q (Line gates line) bits =
    bit_of (line_map (take gates q.circuit.gates) (start_on q bits)) line
held_bit q (Wanted line) bits = bit_of (wanted_on q bits) line
held_bit q (Looked line) bits =
    bit_of (line_map q.circuit.gates (start_on q bits)) line && looked_on q bits
held_bit q (LookedWanted line) bits = bit_of (wanted_on q bits) line && looked_on q bits

-- a function that comes from what is held by fixing the first variables of the order to these bits
pub record LineFunction : Type 0 where
  pub of : Holder
  pub fixed : List Bool

abbrev pub value_on : Comparison → LineFunction → List Bool → Bool
value_on q f bits = held_bit q f.of (with_fixed (order_in q) f.fixed bits)

-- Two of them are one function of the variables.
abbrev pub IsSameFunction : Comparison → LineFunction → LineFunction → Type 0
IsSameFunction q f g =
    (bits : List Bool) → AreBitsFor q bits → value_on q f bits ≡ value_on q g bits

abbrev pub IsConstant : Comparison → LineFunction → Type 0
IsConstant q f = (one other : List Bool) → AreBitsFor q one → AreBitsFor q other
    → value_on q f one ≡ value_on q f other

-- A member of the set of line functions: one that is not constant.
pub record IsMember (q : Comparison) (f : LineFunction) : Type 0 where
  pub holder : IsHolder q f.of
  pub few : length f.fixed ≤ variables_in q
  pub varies : ¬ IsConstant q f

-- There are more line functions than the limit.
pub record HasMore (q : Comparison) (limit : ℕ) : Type 0 where
  pub members : List LineFunction
  pub are : AllByRecursion (IsMember q) members
  pub apart : AreApart (IsSameFunction q) members
  pub many : length members ≡ limit + 1

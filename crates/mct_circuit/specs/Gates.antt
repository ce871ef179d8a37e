-- Gates, and the map of bits that a list of gates makes. The bits of the lines are a list, line 0
-- first.
use Rattle.std.specs.Prelude.{◌≡◌, ℕ, ◌<◌, ◌≤◌, Bool, true, not, if◌then◌else◌, List, [], ◌∷◌, ◌++◌, length, map, reverse, swap, slice_set}
use Rattle.std.specs.List.{AllByRecursion, list_all}
use Rattle.list_facts.specs.Bits.{bit_of}
use Rattle.list_facts.specs.Lists.{AreDifferent}
use Rattle.mct_circuit.specs.declared.gate.Control.{Control}
use Rattle.mct_circuit.specs.declared.gate.Op.{Op}
use Rattle.mct_circuit.specs.declared.gate.Op.TheVariants.{Flip, Swap}

-- a gate: it does the operation where all its controls are met
pub record GateView : Type 0 where
  pub controls : List Control
  pub op : Op

-- a circuit: its number of lines, its limit of gates, and its gates in order
pub record CircuitView : Type 0 where
  pub lines : ℕ
  pub limit : ℕ
  pub gates : List GateView

-- ---- the line map

-- a positive control is met where its line is 1, a negative one where it is 0
abbrev pub is_met : List Bool → Control → Bool
is_met bits control =
    if control.positive then bit_of bits control.line else not (bit_of bits control.line)

-- a flip changes its target, a swap exchanges its two lines, and nothing else changes
abbrev pub after_op : Op → List Bool → List Bool
after_op (Flip target) bits = slice_set bits target (not (bit_of bits target))
after_op (Swap first second) bits = swap bits first second

-- a gate acts exactly where all its controls are met
abbrev pub after_gate : GateView → List Bool → List Bool
after_gate gate bits = if list_all (is_met bits) gate.controls then after_op gate.op bits else bits

-- the line map of a list of gates: one after another
abbrev pub line_map : List GateView → List Bool → List Bool
line_map [] bits = bits
line_map (gate ∷ gates) bits = line_map gates (after_gate gate bits)

-- ---- what gates keep

-- the lines that an operation changes
abbrev pub targets_of : Op → List ℕ
targets_of (Flip target) = target ∷ []
targets_of (Swap first second) = first ∷ second ∷ []

-- all lines of a gate: those of its controls, then those that it changes
abbrev pub lines_of : GateView → List ℕ
lines_of gate = map (λ (control : Control). control.line) gate.controls ++ targets_of gate.op

abbrev pub HasDifferentLines : GateView → Type 0
HasDifferentLines gate = AreDifferent (lines_of gate)

-- a gate of different lines, all below n
pub record IsGateOn (n : ℕ) (gate : GateView) : Type 0 where
  pub different : HasDifferentLines gate
  pub in_range : AllByRecursion (λ line. line < n) (lines_of gate)

abbrev pub AreGatesOn : ℕ → List GateView → Type 0
AreGatesOn n gates = AllByRecursion (IsGateOn n) gates

-- ---- gates by name

abbrev pub positive : ℕ → Control
positive line = record { line = line; positive = true }

-- the flip of a line where all the controlling lines are 1
abbrev pub flip_of : List ℕ → ℕ → GateView
flip_of controls target = record { controls = map positive controls; op = Flip target }

-- a flip with at most two controls, all positive
pub record IsNarrow (gate : GateView) : Type 0 where
  pub controls : List ℕ
  pub target : ℕ
  pub few : length controls ≤ 2
  pub is_flip : gate ≡ flip_of controls target

abbrev pub AreNarrow : List GateView → Type 0
AreNarrow gates = AllByRecursion IsNarrow gates

-- ---- the law of reversal

-- the gates in reversed order undo the gates, and the gates undo them
pub record IsUndone (gates : List GateView) (bits : List Bool) : Type 0 where
  pub behind : line_map (reverse gates) (line_map gates bits) ≡ bits
  pub before : line_map gates (line_map (reverse gates) bits) ≡ bits

abbrev pub ReversedUndoes : Type 0
ReversedUndoes =
    (gates : List GateView) (bits : List Bool)
    → AreGatesOn (length bits) gates → IsUndone gates bits

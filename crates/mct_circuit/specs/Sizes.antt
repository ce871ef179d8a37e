-- The weights of gates, and the counts and the depth of a list of gates.
use Rattle.std.specs.Prelude.{ℕ, ◌+◌, ◌-◌, ◌*◌, Bool, true, false, not, ◌&&◌, ◌==◌, nat_le, slice_index, max, if◌then◌else◌, List, [], ◌∷◌, length, reverse}
use Rattle.std.specs.Prelude.{count_by, sum_by}
use Rattle.std.specs.List.{list_any}
use Rattle.mct_circuit.specs.declared.gate.Control.{Control}
use Rattle.mct_circuit.specs.declared.gate.Op.{Op}
use Rattle.mct_circuit.specs.declared.gate.Op.TheVariants.{Flip, Swap}
use Rattle.mct_circuit.specs.declared.size.Counts.{Counts}
use Rattle.mct_circuit.specs.Gates.{GateView, lines_of}

-- ---- weights

-- how many flips under at most two positive controls stand for a flip under n positive ones
abbrev pub flip_weight : ℕ → ℕ
flip_weight n = if nat_le n 2 then 1 else 4 * (n - 2)

-- a swap is three flips, of which one has a control more
abbrev pub op_weight : Op → ℕ → ℕ
op_weight (Flip target) n = flip_weight n
op_weight (Swap first second) n = 2 + flip_weight (n + 1)

abbrev pub negative_controls : List Control → ℕ
negative_controls controls = count_by (λ (control : Control). not control.positive) controls

-- a negative control is a positive one between two flips of its line
abbrev pub weight_of : GateView → ℕ
weight_of gate = op_weight gate.op (length gate.controls) + 2 * negative_controls gate.controls

-- the weight of gates together
abbrev pub weight_in : List GateView → ℕ
weight_in gates = sum_by weight_of gates

-- ---- counts

abbrev pub is_swap : Op → Bool
is_swap (Flip target) = false
is_swap (Swap first second) = true

abbrev pub is_flip_under : ℕ → GateView → Bool
is_flip_under n gate = not (is_swap gate.op) && (length gate.controls == n)

abbrev pub is_wide_flip : GateView → Bool
is_wide_flip gate = not (is_swap gate.op) && nat_le 3 (length gate.controls)

abbrev pub counts_of : List GateView → Counts
counts_of gates = record {
  x = count_by (is_flip_under 0) gates;
  cx = count_by (is_flip_under 1) gates;
  ccx = count_by (is_flip_under 2) gates;
  wide = count_by is_wide_flip gates;
  swap = count_by (λ (gate : GateView). is_swap gate.op) gates;
}

-- ---- depth, over gates of which the latest comes first

abbrev pub has_line : ℕ → List ℕ → Bool
has_line line lines = list_any (λ other. line == other) lines

abbrev pub share_a_line : List ℕ → List ℕ → Bool
share_a_line these those = list_any (λ line. has_line line those) these

-- the depth of a gate behind others, each of which counts as it weighs: its own weight, and the
-- greatest depth of an earlier one that shares a line with it, if there is one
abbrev pub gate_depth : (GateView → ℕ) → GateView → List GateView → ℕ
gate_depth weigh gate [] = weigh gate
gate_depth weigh gate (other ∷ earlier) =
    max
    (if share_a_line (lines_of gate) (lines_of other)
    then weigh gate + gate_depth weigh other earlier
    else 0)
    (gate_depth weigh gate earlier)

abbrev pub greatest_depth : (GateView → ℕ) → List GateView → ℕ
greatest_depth weigh [] = 0
greatest_depth weigh (gate ∷ earlier) =
    max (gate_depth weigh gate earlier) (greatest_depth weigh earlier)

-- the greatest depth of a gate by weights, or 0
abbrev pub depth_by : (GateView → ℕ) → List GateView → ℕ
depth_by weigh gates = greatest_depth weigh (reverse gates)

-- the depth, in which each gate counts 1
abbrev pub depth_of : List GateView → ℕ
depth_of gates = depth_by (λ gate. 1) gates

-- a flip under two controls counts 1, another gate 0
abbrev pub toffoli_weight : GateView → ℕ
toffoli_weight gate = if is_flip_under 2 gate then 1 else 0

-- the Toffoli depth: the greatest number of Toffoli gates in a chain of gates that share lines
abbrev pub toffoli_depth_of : List GateView → ℕ
toffoli_depth_of gates = depth_by toffoli_weight gates

-- the greatest number at one of the lines, or 0
abbrev pub greatest_at : List ℕ → List ℕ → ℕ
greatest_at numbers [] = 0
greatest_at numbers (line ∷ lines) = max (slice_index numbers line) (greatest_at numbers lines)

-- The text of narrow gates, over the texts that a format has for the parts of a flip.
use Rattle.std.specs.Prelude.{ℕ, ◌<◌, ◌≤◌, List, [], ◌++◌, length, map}
use Rattle.std.specs.List.{concat, AllByRecursion}
use Rattle.circuit_plans.specs.declared.plan.TheConstants.{MOST_LINES}
use Rattle.mct_circuit.specs.declared.gate.Control.{Control}
use Rattle.mct_circuit.specs.declared.gate.Op.{Op}
use Rattle.mct_circuit.specs.declared.gate.Op.TheVariants.{Flip, Swap}
use Rattle.mct_circuit.specs.Gates.{GateView, AreGatesOn, AreNarrow}

-- the word of a gate by the number of its controls, a control by its line, and the target by its
-- line
pub record FlipTexts : Type 0 where
  pub word : ℕ → List ℕ
  pub control : ℕ → List ℕ
  pub target : ℕ → List ℕ

abbrev pub controls_text : FlipTexts → List Control → List ℕ
controls_text texts controls =
    concat (map (λ (control : Control). texts.control control.line) controls)

-- a flip of `target` under these controls
abbrev pub flip_text : FlipTexts → List Control → ℕ → List ℕ
flip_text texts controls target =
    texts.word (length controls) ++ (controls_text texts controls ++ texts.target target)

-- an operation under these controls: a swap has no text
abbrev pub op_text : FlipTexts → List Control → Op → List ℕ
op_text texts controls (Flip target) = flip_text texts controls target
op_text texts controls (Swap first second) = []

abbrev pub gate_text : FlipTexts → GateView → List ℕ
gate_text texts gate = op_text texts gate.controls gate.op

abbrev pub gates_text : FlipTexts → List GateView → List ℕ
gates_text texts gates = concat (map (gate_text texts) gates)

-- ---- what can be written

-- controls on so many lines, within the limit
abbrev pub AreControlsOn : ℕ → List Control → Type 0
AreControlsOn count controls =
    (count ≤ MOST_LINES) × AllByRecursion (λ (control : Control). control.line < count) controls

-- narrow gates on so many lines, within the limit
abbrev pub AreFlipsOn : ℕ → List GateView → Type 0
AreFlipsOn count gates = (count ≤ MOST_LINES) × AreGatesOn count gates × AreNarrow gates

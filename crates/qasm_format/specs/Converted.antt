-- The file of a circuit that is no compiled one: its lines are those of `q`, and an added line is
-- that of `dirty`.
use Rattle.std.specs.Prelude.{◌≡◌, ℕ, ◌-◌, ◌≤◌, nat_lt, Bool, true, if◌then◌else◌, List, [], ◌∷◌, codes}
use Rattle.std.specs.Fmt.{decimal}
use Rattle.mct_circuit.specs.Gates.{GateView}
use Rattle.format_parts.specs.Fits.{FitAFile}
use Rattle.qasm_format.specs.declared.file.Register.{Register}
use Rattle.qasm_format.specs.Statements.{Argument, one_of}
use Rattle.qasm_format.specs.Qasm.{QasmView, MeansFile}
use Rattle.qasm_format.specs.Written.{file_text}

-- how many of so many lines were not added: all, or all but the last
abbrev pub kept_lines : ℕ → Bool → ℕ
kept_lines count added = if added then count - 1 else count

-- the register of an added line
abbrev pub added_register : Bool → List Register
added_register added = if added then record { name = codes "dirty"; size = 1 } ∷ [] else []

abbrev pub converted_registers : ℕ → Bool → List Register
converted_registers count added =
    record { name = codes "q"; size = kept_lines count added } ∷ added_register added

-- the place of a line in its register
abbrev pub converted_place : ℕ → Bool → ℕ → Argument
converted_place count added line =
    if nat_lt line (kept_lines count added) then one_of (codes "q") (decimal line)
    else one_of (codes "dirty") (decimal (line - kept_lines count added))

-- the text of gates on so many lines
abbrev pub converted_text : ℕ → Bool → List GateView → List ℕ
converted_text count added gates =
    file_text (converted_registers count added) (converted_place count added) gates

-- the text means a file of these gates, whose lines are those of `q`, and of `dirty` where a line
-- was added
pub record MeansConverted (text : List ℕ) (count : ℕ) (added : Bool)
    (gates : List GateView) : Type 0 where
  pub file : QasmView
  pub meaning : MeansFile text file
  pub registers_are : file.registers ≡ converted_registers count added
  pub gates_are : file.gates ≡ gates

abbrev pub ConvertedHasMeaning : Type 0
ConvertedHasMeaning =
    (count : ℕ) (added : Bool) (gates : List GateView) → (added ≡ true → 2 ≤ count)
    → FitAFile count gates → MeansConverted (converted_text count added gates) count added gates

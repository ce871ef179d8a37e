-- The file of a circuit that is no compiled one: its lines are named by their numbers, and have
-- given marks.
use Rattle.std.specs.Prelude.{◌≡◌, ℕ, Bool, List, ◌∷◌, length}
use Rattle.std.specs.Fmt.{decimal}
use Rattle.real_format.specs.declared.file.Mark.{Mark}
use Rattle.mct_circuit.specs.Gates.{GateView}
use Rattle.format_parts.specs.Fits.{FitAFile}
use Rattle.real_format.specs.Real.{RealView, MeansFile}
use Rattle.real_format.specs.Written.{names_by, file_text}

-- the name of a line: `l`, and its number
abbrev pub numbered_name : ℕ → List ℕ
numbered_name line = 108 ∷ decimal line

-- the names of so many lines: `l0`, `l1` and so on
abbrev pub converted_names : ℕ → List (List ℕ)
converted_names count = names_by numbered_name count

-- the text of gates on lines of these marks
abbrev pub converted_text : List Mark → List Bool → List GateView → List ℕ
converted_text constants garbage gates =
    file_text numbered_name (length constants) constants garbage gates

-- the text means a file of these gates, whose lines have these marks, and are named by their
-- numbers
pub record MeansConverted (text : List ℕ) (constants : List Mark) (garbage : List Bool)
    (gates : List GateView) : Type 0 where
  pub file : RealView
  pub meaning : MeansFile text file
  pub names_are : file.names ≡ converted_names (length constants)
  pub constants_are : file.constants ≡ constants
  pub garbage_are : file.garbage ≡ garbage
  pub gates_are : file.gates ≡ gates

abbrev pub ConvertedHasMeaning : Type 0
ConvertedHasMeaning =
    (constants : List Mark) (garbage : List Bool) (gates : List GateView)
    → length garbage ≡ length constants → FitAFile (length constants) gates
    → MeansConverted (converted_text constants garbage gates) constants garbage gates

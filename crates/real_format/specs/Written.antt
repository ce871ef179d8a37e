-- The text of a file as it is written: its lines, made of words.
use Rattle.std.specs.Prelude.{ℕ, Bool, List, [], ◌∷◌, ◌++◌, length, map, codes}
use Rattle.std.specs.List.{flat_map, range_with_len}
use Rattle.std.specs.Fmt.{decimal}
use Rattle.real_format.specs.declared.file.Mark.{Mark}
use Rattle.mct_circuit.specs.Gates.{GateView, lines_of}
use Rattle.real_format.specs.Header.{constant_byte, garbage_byte}

-- words parted by one space, and a line feed
abbrev pub line_text : List (List ℕ) → List ℕ
line_text [] = 10 ∷ []
line_text (word ∷ words) = word ++ (flat_map (λ w. 32 ∷ w) words ++ 10 ∷ [])

-- the names of so many lines, where a function gives the name of each
abbrev pub names_by : (ℕ → List ℕ) → ℕ → List (List ℕ)
names_by name count = map name (range_with_len 0 count)

-- `t1`, `t2` or `t3`, and the names of the controls and the target
abbrev pub gate_words : (ℕ → List ℕ) → GateView → List (List ℕ)
gate_words name gate = (116 ∷ decimal (length (lines_of gate))) ∷ map name (lines_of gate)

abbrev pub header_lines : (ℕ → List ℕ) → ℕ → List Mark → List Bool → List (List (List ℕ))
header_lines name count constants garbage =
    (codes ".version" ∷ codes "2.0" ∷ [])
    ∷ (codes ".numvars" ∷ decimal count ∷ [])
    ∷ (codes ".variables" ∷ names_by name count)
    ∷ (codes ".inputs" ∷ names_by name count)
    ∷ (codes ".outputs" ∷ names_by name count)
    ∷ (codes ".constants" ∷ map constant_byte constants ∷ [])
    ∷ (codes ".garbage" ∷ map garbage_byte garbage ∷ [])
    ∷ (codes ".begin" ∷ [])
    ∷ []

-- the lines of a file of so many lines, of these names and marks: its header, a line for each gate,
-- and the end
abbrev pub file_lines : (ℕ → List ℕ) → ℕ → List Mark → List Bool → List GateView
    → List (List (List ℕ))
file_lines name count constants garbage gates =
    header_lines name count constants garbage
    ++ (map (gate_words name) gates ++ (codes ".end" ∷ []) ∷ [])

abbrev pub file_text : (ℕ → List ℕ) → ℕ → List Mark → List Bool → List GateView → List ℕ
file_text name count constants garbage gates =
    flat_map line_text (file_lines name count constants garbage gates)

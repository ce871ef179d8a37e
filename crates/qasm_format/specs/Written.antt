-- The text of a file as it is written: the head, the include, and each register and each gate in a
-- line of its own.
use Rattle.std.specs.Prelude.{ℕ, zero, suc, List, [], ◌∷◌, ◌++◌, length, map, codes}
use Rattle.std.specs.List.{flat_map, concat}
use Rattle.std.specs.Fmt.{decimal}
use Rattle.mct_circuit.specs.Gates.{GateView, lines_of}
use Rattle.qasm_format.specs.declared.file.Register.{Register}
use Rattle.qasm_format.specs.Statements.{Argument, Statement, includes, declares, applies, words_of, head_words}

-- the word of a gate with so many controls
abbrev pub gate_word : ℕ → List ℕ
gate_word zero = codes "x"
gate_word (suc zero) = codes "cx"
gate_word (suc (suc _)) = codes "ccx"

-- a gate, where a function gives the place of each line
abbrev pub gate_statement : (ℕ → Argument) → GateView → Statement
gate_statement place gate =
    applies (gate_word (length gate.controls)) (map place (lines_of gate))

abbrev pub declaration : Register → Statement
declaration register = declares register.name (decimal register.size)

-- the include, the declarations, and a statement for each gate
abbrev pub file_statements : List Register → (ℕ → Argument) → List GateView → List Statement
file_statements registers place gates =
    includes ∷ (map declaration registers ++ map (gate_statement place) gates)

-- the first word, a space, the other words with nothing between them, and a line feed
abbrev pub line_text : List (List ℕ) → List ℕ
line_text [] = 10 ∷ []
line_text (word ∷ words) = word ++ 32 ∷ (concat words ++ 10 ∷ [])

-- the head and each statement in a line of its own
abbrev pub file_text : List Register → (ℕ → Argument) → List GateView → List ℕ
file_text registers place gates =
    flat_map line_text (head_words ∷ map words_of (file_statements registers place gates))

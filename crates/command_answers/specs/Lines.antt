-- Lines that commands write: bits as digits, and numbers behind words.
use Rattle.std.specs.Prelude.{ℕ, Bool, List, ◌++◌, map, if◌then◌else◌, codes}
use Rattle.std.specs.Fmt.{decimal}

-- bits as digits
abbrev pub digits_of : List Bool → List ℕ
digits_of bits = map (λ bit. if bit then 49 else 48) bits

-- bits as digits, and a line feed
abbrev pub bits_text : List Bool → List ℕ
bits_text bits = digits_of bits ++ codes "\n"

-- a word, a number and a line feed
abbrev pub number_line : List ℕ → ℕ → List ℕ
number_line word number = word ++ (decimal number ++ codes "\n")

-- Words of bits: what a word of digits is, and the bits that it writes.
use Rattle.std.specs.Prelude.{◌≡◌, ℕ, ◌==◌, Bool, List, length, map}
use Rattle.std.specs.List.{AllByRecursion}
use Rattle.revc_base.specs.Bits.{IsDigit}

-- a word of so many digits 0 and 1
pub record IsInputWord (inputs : ℕ) (word : List ℕ) : Type 0 where
  pub digits : AllByRecursion IsDigit word
  pub size : length word ≡ inputs

-- the bits of a word: true for 1
abbrev pub bits_of : List ℕ → List Bool
bits_of word = map (λ byte. byte == 49) word

-- Bit words: words of the digits 0 and 1.
use Rattle.std.specs.Prelude.{◌≡◌, ℕ, ◌==◌, ◌⊎◌, Bool, List, map}
use Rattle.std.specs.List.{AllByRecursion}
use Rattle.list_facts.specs.Lists.{IsFirstWithout}

-- a byte that is the digit 0 or 1
abbrev pub IsDigit : ℕ → Type 0
IsDigit byte = (byte ≡ 48) ⊎ (byte ≡ 49)

-- The bits are those of the word: one for each byte, each a digit, true for 1.
pub record IsWordOf (word : List ℕ) (bits : List Bool) : Type 0 where
  pub digits : AllByRecursion IsDigit word
  pub read : bits ≡ map (λ byte. byte == 49) word

-- The byte at this place, counted from 0, is the first that is neither 0 nor 1.
abbrev pub IsFirstOther : List ℕ → ℕ → Type 0
IsFirstOther word at = IsFirstWithout IsDigit word at

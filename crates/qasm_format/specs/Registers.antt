-- Registers, laid one after another, and the lines that an argument stands for.
use Rattle.std.specs.Prelude.{◌≡◌, ℕ, ◌+◌, ◌≤◌, true, List, [], ◌∷◌, ◌++◌, length, codes, slice_index}
use Rattle.std.specs.List.{AllByRecursion}
use Rattle.std.specs.Char.{is_ascii_lowercase}
use Rattle.std.specs.Str.Parse.{IsNumeral, digits_value}
use Rattle.list_facts.specs.Lists.{IsAmong, AreApart}
use Rattle.revc_base.specs.declared.limits.TheConstants.{MOST_NAME_BYTES}
use Rattle.qasm_format.specs.declared.file.Register.{Register}
use Rattle.qasm_format.specs.declared.spots.Spot.{Spot}
use Rattle.qasm_format.specs.declared.spots.Spot.TheVariants.{Line, Whole}
use Rattle.qasm_lexer.specs.declared.words.TheConstants.{MOST_DIGITS}
use Rattle.qasm_lexer.specs.Tokens.{is_identifier}

-- ---- names and numbers

-- words that name no register: this project's own choice
abbrev pub kept_words : List (List ℕ)
kept_words =
    codes "barrier" ∷ codes "creg" ∷ codes "gate" ∷ codes "if" ∷ codes "include"
    ∷ codes "measure" ∷ codes "opaque" ∷ codes "qreg" ∷ codes "reset" ∷ codes "pi" ∷ []

-- a name of a register: an identifier of at most 64 bytes that begins with a lower-case letter, and
-- is no kept word
pub record IsName (word : List ℕ) : Type 0 where
  pub spelled : is_identifier word ≡ true
  pub begins : is_ascii_lowercase (slice_index word 0) ≡ true
  pub few : length word ≤ MOST_NAME_BYTES
  pub free : ¬ IsAmong word kept_words

-- at most 9 digits with this value
pub record IsNumber (digits : List ℕ) (n : ℕ) : Type 0 where
  pub spelled : IsNumeral 10 digits
  pub few : length digits ≤ MOST_DIGITS
  pub value : digits_value 10 digits ≡ n

-- ---- registers

-- a name and at least one line
pub record IsRegister (register : Register) : Type 0 where
  pub named : IsName register.name
  pub some : 1 ≤ register.size

abbrev pub HaveDifferentNames : List Register → Type 0
HaveDifferentNames registers =
    AreApart (λ (one : Register) (other : Register). one.name ≡ other.name) registers

-- the number of lines of some registers
abbrev pub lines_of_all : List Register → ℕ
lines_of_all [] = 0
lines_of_all (register ∷ registers) = register.size + lines_of_all registers

-- the register of this name has so many lines, from this one on: it stands behind those before it
pub record IsLaid (registers : List Register) (name : List ℕ) (first size : ℕ) : Type 0 where
  pub before : List Register
  pub behind : List Register
  pub among : registers ≡ before ++ record { name = name; size = size } ∷ behind
  pub place : first ≡ lines_of_all before

-- ---- arguments

-- the line of the i-th gate: a fixed line stays
abbrev pub line_at : ℕ → Spot → ℕ
line_at i (Line at) = at
line_at i (Whole first size) = first + i

-- a register has this size
abbrev pub HasSize : ℕ → Spot → Type 0
HasSize size (Line at) = Unit {0}
HasSize size (Whole first own) = own ≡ size

abbrev pub IsLine : Spot → Type 0
IsLine (Line at) = Unit {0}
IsLine (Whole first size) = ⊥

-- how many gates a statement stands for: the size that its whole registers share, or one where it
-- has none
pub record AreSpread (spots : List Spot) (count : ℕ) : Type 0 where
  pub shared : AllByRecursion (HasSize count) spots
  pub alone : AllByRecursion IsLine spots → count ≡ 1

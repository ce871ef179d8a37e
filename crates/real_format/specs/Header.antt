-- The header of a `.real` text: what its lines say, and which line may stand behind those before
-- it.
use Rattle.std.specs.Prelude.{◌≡◌, ℕ, ◌≤◌, Bool, true, false, ◌⊎◌, List, [], ◌∷◌, length, map, codes, slice_index, Option, Some, None}
use Rattle.std.specs.List.{AllByRecursion}
use Rattle.std.specs.Str.Parse.{IsNumeral, digits_value}
use Rattle.list_facts.specs.Lists.{AreApart}
use Rattle.circuit_plans.specs.declared.plan.TheConstants.{MOST_LINES}
use Rattle.revc_base.specs.declared.limits.TheConstants.{MOST_NAME_BYTES}
use Rattle.real_format.specs.declared.file.Mark.{Mark}
use Rattle.real_format.specs.declared.file.Mark.TheVariants.{Free, Zero, One}
use Rattle.real_format.specs.declared.header.Head.{Head}
use Rattle.real_format.specs.declared.header.Head.TheVariants.{Version, Lines, Names, Inputs, Outputs, InputBus, OutputBus, Constants, Garbage}

-- ---- words

-- a word of digits with this value
pub record IsNumber (word : List ℕ) (n : ℕ) : Type 0 where
  pub digits : IsNumeral 10 word
  pub value : digits_value 10 word ≡ n

-- the byte begins no name: `-` or `#`
abbrev pub IsBarred : ℕ → Type 0
IsBarred b = (b ≡ 45) ⊎ (b ≡ 35)

-- a word that is a name: 1 to 64 bytes, the first of which is neither `-` nor `#`
pub record IsName (word : List ℕ) : Type 0 where
  pub some : 1 ≤ length word
  pub few : length word ≤ MOST_NAME_BYTES
  pub begins : ¬ IsBarred (slice_index word 0)

-- names, of which no two are equal
pub record AreNames (words : List (List ℕ)) : Type 0 where
  pub named : AllByRecursion IsName words
  pub different : AreApart (λ name other. name ≡ other) words

-- the byte that stands for a mark
abbrev pub constant_byte : Mark → ℕ
constant_byte Free = 45
constant_byte Zero = 48
constant_byte One = 49

abbrev pub garbage_byte : Bool → ℕ
garbage_byte true = 49
garbage_byte false = 45

-- ---- what a header says

-- What the lines of a header say: whether a line of a kind was there, and else what it said, or
-- nothing so far.
pub record HeaderView : Type 0 where
  pub version : Bool
  pub inputs : Bool
  pub outputs : Bool
  pub lines : Option ℕ
  pub names : Option (List (List ℕ))
  pub constants : Option (List Mark)
  pub garbage : Option (List Bool)

abbrev pub nothing_said : HeaderView
nothing_said = record {
  version = false;
  inputs = false;
  outputs = false;
  lines = None;
  names = None;
  constants = None;
  garbage = None;
}

-- with which bit each line starts
abbrev pub with_constants : HeaderView → List Mark → HeaderView
with_constants said marks = record said { constants = Some marks }

-- the last bits of which lines are of no use
abbrev pub with_garbage : HeaderView → List Bool → HeaderView
with_garbage said marks = record said { garbage = Some marks }

-- the first word of a line of the header
abbrev pub spelling_of : Head → List ℕ
spelling_of Version = codes ".version"
spelling_of Lines = codes ".numvars"
spelling_of Names = codes ".variables"
spelling_of Inputs = codes ".inputs"
spelling_of Outputs = codes ".outputs"
spelling_of InputBus = codes ".inputbus"
spelling_of OutputBus = codes ".outputbus"
spelling_of Constants = codes ".constants"
spelling_of Garbage = codes ".garbage"

-- ---- the rule of each line: the words behind its first one, and what the header says with it

-- the version, once: 1.0 or 2.0
pub record SaysVersion (said : HeaderView) (words : List (List ℕ))
    (after : HeaderView) : Type 0 where
  pub once : said.version ≡ false
  pub known : (words ≡ codes "1.0" ∷ []) ⊎ (words ≡ codes "2.0" ∷ [])
  pub adds : after ≡ record said { version = true }

-- the number of lines, once: 1 to 16,384
pub record SaysLines (said : HeaderView) (words : List (List ℕ))
    (after : HeaderView) : Type 0 where
  pub number : List ℕ
  pub count : ℕ
  pub once : said.lines ≡ None
  pub alone : words ≡ number ∷ []
  pub counted : IsNumber number count
  pub some : 1 ≤ count
  pub few : count ≤ MOST_LINES
  pub adds : after ≡ record said { lines = Some count }

-- the names of all lines, once, and behind their number
pub record SaysNames (said : HeaderView) (words : List (List ℕ))
    (after : HeaderView) : Type 0 where
  pub once : said.names ≡ None
  pub counted : said.lines ≡ Some (length words)
  pub good : AreNames words
  pub adds : after ≡ record said { names = Some words }

-- the marks of all lines, each by its byte, once, and behind the number of lines
pub record SaysMarks {M : Type 0} (byte_of : M → ℕ) (old : Option (List M)) (lines : Option ℕ)
    (with_marks : List M → HeaderView) (words : List (List ℕ)) (after : HeaderView) : Type 0 where
  pub marks : List M
  pub once : old ≡ None
  pub counted : lines ≡ Some (length marks)
  pub spelled : words ≡ map byte_of marks ∷ []
  pub adds : after ≡ with_marks marks

-- words that are passed over, once
pub record SaysInputs (said after : HeaderView) : Type 0 where
  pub once : said.inputs ≡ false
  pub adds : after ≡ record said { inputs = true }

pub record SaysOutputs (said after : HeaderView) : Type 0 where
  pub once : said.outputs ≡ false
  pub adds : after ≡ record said { outputs = true }

abbrev pub Says : Head → HeaderView → List (List ℕ) → HeaderView → Type 0
Says Version said words after = SaysVersion said words after
Says Lines said words after = SaysLines said words after
Says Names said words after = SaysNames said words after
Says Inputs said words after = SaysInputs said after
Says Outputs said words after = SaysOutputs said after
Says InputBus said words after = after ≡ said
Says OutputBus said words after = after ≡ said
Says Constants said words after =
    SaysMarks constant_byte said.constants said.lines (with_constants said) words after
Says Garbage said words after =
    SaysMarks garbage_byte said.garbage said.lines (with_garbage said) words after

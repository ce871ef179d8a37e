-- Why a text means no file: its first bad line, and whether that line passes a limit.
use Rattle.std.specs.Prelude.{◌≡◌, ℕ, ◌+◌, ◌<◌, ◌⊎◌, List, [], ◌∷◌, ◌++◌, length, codes, slice_index, Some, None}
use Rattle.mct_circuit.specs.declared.gate.Control.{Control}
use Rattle.circuit_plans.specs.declared.plan.TheConstants.{MOST_LINES, MOST_GATES}
use Rattle.revc_base.specs.declared.limits.TheConstants.{MOST_NAME_BYTES}
use Rattle.real_format.specs.declared.file.RealFault.{RealFault}
use Rattle.real_format.specs.declared.file.RealFault.TheVariants.{Line, Limit, Memory}
use Rattle.real_format.specs.Words.{said_lines}
use Rattle.real_format.specs.Header.{HeaderView, IsNumber, AreNames, IsBarred, nothing_said}
use Rattle.real_format.specs.Real.{RealView, Place, in_header, in_gates, at_end, Leads, LeadTo, IsGateWord, NameLines}

-- ---- limits

-- a word that would be a name, but for its length: it begins as a name does, and has more than 64
-- bytes
pub record IsLong (word : List ℕ) : Type 0 where
  pub long : MOST_NAME_BYTES < length word
  pub begins : ¬ IsBarred (slice_index word 0)

-- `.numvars` with a number above 16,384
pub record HasManyLines (said : HeaderView) (line : List (List ℕ)) : Type 0 where
  pub number : List ℕ
  pub count : ℕ
  pub rest : List (List ℕ)
  pub once : said.lines ≡ None
  pub words : line ≡ codes ".numvars" ∷ number ∷ rest
  pub counted : IsNumber number count
  pub many : MOST_LINES < count

-- `.variables` with a long name behind good ones, where one more is wanted
pub record HasLongName (said : HeaderView) (line : List (List ℕ)) : Type 0 where
  pub names : List (List ℕ)
  pub name : List ℕ
  pub rest : List (List ℕ)
  pub count : ℕ
  pub once : said.names ≡ None
  pub counted : said.lines ≡ Some count
  pub words : line ≡ codes ".variables" ∷ (names ++ name ∷ rest)
  pub wanted : length names < count
  pub good : AreNames names
  pub long : IsLong name

-- a gate's word where the file has 4,000,000 gates
pub record HasManyGates (file : RealView) (line : List (List ℕ)) : Type 0 where
  pub word : List ℕ
  pub rest : List (List ℕ)
  pub controls : ℕ
  pub targets : ℕ
  pub words : line ≡ word ∷ rest
  pub gate_word : IsGateWord word controls targets
  pub full : length file.gates ≡ MOST_GATES

-- the word, where the gate wants one more: a control, which may have a sign, or a line that it
-- flips or swaps
abbrev pub IsLongWanted : ℕ → List (List ℕ) → List (List ℕ) → List ℕ → Type 0
IsLongWanted wanted controls targets word =
    ((targets ≡ []) × (length controls < wanted)
    × (IsLong word ⊎ ((name : List ℕ) × (word ≡ 45 ∷ name) × IsLong name)))
    ⊎ ((length controls ≡ wanted) × IsLong word)

-- a gate with a long name behind good ones of different lines, where one more is wanted
pub record HasLongGate (file : RealView) (line : List (List ℕ)) : Type 0 where
  pub word : List ℕ
  pub control_words : List (List ℕ)
  pub target_words : List (List ℕ)
  pub name : List ℕ
  pub rest : List (List ℕ)
  pub wanted_controls : ℕ
  pub wanted_targets : ℕ
  pub controls : List Control
  pub targets : List ℕ
  pub room : length file.gates < MOST_GATES
  pub words : line ≡ word ∷ (control_words ++ target_words ++ name ∷ rest)
  pub gate_word : IsGateWord word wanted_controls wanted_targets
  pub few : length control_words + length target_words < wanted_controls + wanted_targets
  pub good : NameLines file.names control_words target_words controls targets
  pub long : IsLongWanted wanted_controls control_words target_words name

-- the first word of the line that breaks a rule passes a limit, and keeps the form
abbrev pub PassesLimit : Place → List (List ℕ) → Type 0
PassesLimit (in_header said) line = HasManyLines said line ⊎ HasLongName said line
PassesLimit (in_gates file) line = HasManyGates file line ⊎ HasLongGate file line
PassesLimit (at_end file) line = ⊥

-- ---- the first bad line

-- Lines are counted from 1. All before this one lead to a place, and from there it leads nowhere.
pub record IsBadLine (text : List ℕ) (number : ℕ) (place : Place)
    (line : List (List ℕ)) : Type 0 where
  pub before : List (List (List ℕ))
  pub behind : List (List (List ℕ))
  pub cut : said_lines text ≡ before ++ line ∷ behind
  pub count : number ≡ length before + 1
  pub leads : LeadTo before (in_header nothing_said) place
  pub nowhere : (next : Place) → ¬ Leads line place next

-- All lines lead to a place, and it is no end: the number is one more than that of the lines.
pub record HasNoEnd (text : List ℕ) (number : ℕ) : Type 0 where
  pub place : Place
  pub count : number ≡ length (said_lines text) + 1
  pub leads : LeadTo (said_lines text) (in_header nothing_said) place
  pub open_place : (file : RealView) → ¬ (place ≡ at_end file)

pub record BreaksForm (text : List ℕ) (number : ℕ) : Type 0 where
  pub place : Place
  pub line : List (List ℕ)
  pub bad : IsBadLine text number place line
  pub form : ¬ PassesLimit place line

pub record BreaksLimit (text : List ℕ) (number : ℕ) : Type 0 where
  pub place : Place
  pub line : List (List ℕ)
  pub bad : IsBadLine text number place line
  pub limit : PassesLimit place line

-- why the text means no file
abbrev pub IsTextFault : List ℕ → RealFault → Type 0
IsTextFault text (Line number) = BreaksForm text number ⊎ HasNoEnd text number
IsTextFault text (Limit number) = BreaksLimit text number
IsTextFault text (Memory _) = ⊥

-- what `read` may end with: the text's fault, or want of memory
abbrev pub IsRealFault : List ℕ → RealFault → Type 0
IsRealFault text (Line number) = IsTextFault text (Line number)
IsRealFault text (Limit number) = IsTextFault text (Limit number)
IsRealFault text (Memory _) = Unit {0}

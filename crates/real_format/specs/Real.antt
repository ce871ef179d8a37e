-- What a `.real` text means: names, marks and gates. Its lines lead from an empty header to the end
-- of a file.
use Rattle.std.specs.Prelude.{◌≡◌, ℕ, ◌+◌, ◌≤◌, ◌<◌, Bool, false, if◌then◌else◌, ◌⊎◌, List, [], ◌∷◌, ◌++◌, length, map, replicate, codes, slice_get, Some, unwrap_or}
use Rattle.std.specs.List.{AllByRecursion, AllZip}
use Rattle.list_facts.specs.Lists.{AreApart, AreDifferent}
use Rattle.real_format.specs.declared.file.Mark.{Mark}
use Rattle.real_format.specs.declared.file.Mark.TheVariants.{Free}
use Rattle.real_format.specs.declared.header.Head.{Head}
use Rattle.mct_circuit.specs.declared.gate.Control.{Control}
use Rattle.mct_circuit.specs.Gates.{GateView, AreGatesOn, targets_of}
use Rattle.circuit_plans.specs.declared.plan.TheConstants.{MOST_LINES, MOST_GATES}
use Rattle.format_parts.specs.Readings as readings
use Rattle.real_format.specs.Words.{said_lines}
use Rattle.real_format.specs.Header.{HeaderView, IsName, IsNumber, Says, nothing_said, spelling_of}

-- a file: for each line its name, the bit with which it starts and whether its last bit is of no
-- use; then the gates
pub record RealView : Type 0 where
  pub names : List (List ℕ)
  pub constants : List Mark
  pub garbage : List Bool
  pub gates : List GateView

-- ---- gates

-- the word `tN` or `fN` of a gate with so many controls that flips one line, or swaps two
pub record IsGateWord (word : List ℕ) (controls targets : ℕ) : Type 0 where
  pub letter : ℕ
  pub number : List ℕ
  pub spelled : word ≡ letter ∷ number
  pub known : ((letter ≡ 116) × (targets ≡ 1)) ⊎ ((letter ≡ 102) × (targets ≡ 2))
  pub counted : IsNumber number (controls + targets)
  pub few_digits : length number ≤ 5

abbrev pub NamesLine : List (List ℕ) → List ℕ → ℕ → Type 0
NamesLine names word line = slice_get names line ≡ Some word

-- a control is named by its line's name, with `-` before it where the control is negative
pub record NamesControl (names : List (List ℕ)) (word : List ℕ)
    (control : Control) : Type 0 where
  pub name : List ℕ
  pub signed : word ≡ (if control.positive then name else 45 ∷ name)
  pub named : NamesLine names name control.line

-- words that name controls, and behind them words that name lines: all of them different lines
pub record NameLines (names control_words target_words : List (List ℕ)) (controls : List Control)
    (targets : List ℕ) : Type 0 where
  pub controlled : AllZip (NamesControl names) control_words controls
  pub targeted : AllZip (NamesLine names) target_words targets
  pub different : AreDifferent (map (λ (control : Control). control.line) controls ++ targets)

-- the gate's word, its controls, and the lines that it flips or swaps
pub record ReadsGate (names : List (List ℕ)) (words : List (List ℕ))
    (gate : GateView) : Type 0 where
  pub word : List ℕ
  pub control_words : List (List ℕ)
  pub target_words : List (List ℕ)
  pub parts : words ≡ word ∷ (control_words ++ target_words)
  pub counted : IsGateWord word (length control_words) (length target_words)
  pub good : NameLines names control_words target_words gate.controls (targets_of gate.op)

-- ---- lines

-- the file of a header, without its gates; marks that are absent are all `-`
pub record Begins (said : HeaderView) (file : RealView) : Type 0 where
  pub names : said.names ≡ Some file.names
  pub constants : file.constants ≡ unwrap_or said.constants (replicate (length file.names) Free)
  pub garbage : file.garbage ≡ unwrap_or said.garbage (replicate (length file.names) false)
  pub gates : file.gates ≡ []

-- how far the lines of a text have come
pub data Place : Type 0 where
  in_header : HeaderView → Place
  in_gates : RealView → Place
  at_end : RealView → Place

-- The line leads from one place to another: it keeps the rules, where it stands.
pub data Leads (line : List (List ℕ)) : Place → Place → Type 0 where
  says_nothing : {place : Place} → line ≡ [] → Leads line place place
  says_more : {said after : HeaderView} → (head : Head) → (words : List (List ℕ))
      → line ≡ spelling_of head ∷ words → Says head said words after
      → Leads line (in_header said) (in_header after)
  begins_gates : {said : HeaderView} → {file : RealView} → line ≡ codes ".begin" ∷ []
      → Begins said file → Leads line (in_header said) (in_gates file)
  adds_gate : {file : RealView} → (read : GateView) → ReadsGate file.names line read
      → length file.gates < MOST_GATES
      → Leads line (in_gates file) (in_gates (record file { gates = file.gates ++ read ∷ [] }))
  ends_file : {file : RealView} → line ≡ codes ".end" ∷ []
      → Leads line (in_gates file) (at_end file)

-- the lines lead so, one after another
abbrev pub LeadTo : List (List (List ℕ)) → Place → Place → Type 0
LeadTo lines from to = readings.LeadTo Leads lines from to

-- a text means this file
pub record MeansFile (text : List ℕ) (file : RealView) : Type 0 where
  pub read : LeadTo (said_lines text) (in_header nothing_said) (at_end file)

-- What each file has: different names for its lines, of which there are 1 to 16,384, a mark of each
-- kind for each line, and at most 4,000,000 gates on its lines.
pub record IsFile (file : RealView) : Type 0 where
  pub some : 1 ≤ length file.names
  pub few : length file.names ≤ MOST_LINES
  pub named : AllByRecursion IsName file.names
  pub different : AreApart (λ name other. name ≡ other) file.names
  pub constants : length file.constants ≡ length file.names
  pub garbage : length file.garbage ≡ length file.names
  pub few_gates : length file.gates ≤ MOST_GATES
  pub placed : AreGatesOn (length file.names) file.gates

abbrev pub MeaningsAreFiles : Type 0
MeaningsAreFiles = (text : List ℕ) (file : RealView) → MeansFile text file → IsFile file

-- lines that lead from here to the end of a file
pub record GoesOn (place : Place) : Type 0 where
  pub lines : List (List (List ℕ))
  pub file : RealView
  pub leads : LeadTo lines place (at_end file)

-- Wherever lines have led, some lines lead on to the end of a file: each front that keeps the rules
-- begins a file.
abbrev pub FrontsGoOn : Type 0
FrontsGoOn =
    (lines : List (List (List ℕ))) (place : Place) → LeadTo lines (in_header nothing_said) place
    → GoesOn place

-- a text means at most one file
abbrev pub OneMeaning : Type 0
OneMeaning =
    (text : List ℕ) (file other : RealView) → MeansFile text file → MeansFile text other
    → file ≡ other

-- What each statement says, read whole. A text is the head and statements: this is the law
-- `files_are_statements`.
use Rattle.std.specs.Prelude.{◌≡◌, ℕ, ◌+◌, ◌<◌, ◌≤◌, ◌↔◌, true, false, List, [], ◌∷◌, ◌++◌, length, codes}
use Rattle.std.specs.List.{flat_map}
use Rattle.list_facts.specs.Lists.{IsAmong}
use Rattle.revc_base.specs.declared.limits.TheConstants.{MOST_NAME_BYTES}
use Rattle.format_parts.specs.Readings as readings
use Rattle.qasm_format.specs.declared.words.RegisterKind.{RegisterKind}
use Rattle.qasm_format.specs.declared.words.Use.{Use}
use Rattle.qasm_format.specs.declared.file.Register.{Register}
use Rattle.qasm_format.specs.declared.spots.Spot.{Spot}
use Rattle.qasm_format.specs.declared.spots.Spot.TheVariants.{Line, Whole}
use Rattle.qasm_lexer.specs.Tokens.{is_identifier}
use Rattle.qasm_format.specs.Registers.{IsName, IsNumber, IsLaid, lines_of_all}
use Rattle.qasm_format.specs.Stages.{Said, starts, head, nothing_said, LeadTo, Ends, HasRoom, IsUseWord, declared, kind_word}
use Rattle.qasm_format.specs.Statements.{bracketed, head_words}

-- the name of a register that was declared, with its first line and its size
pub record NamesRegister (registers : List Register) (name : List ℕ) (first size : ℕ) : Type 0 where
  pub spelled : is_identifier name ≡ true
  pub few : length name ≤ MOST_NAME_BYTES
  pub laid : IsLaid registers name first size

-- an argument: a whole register by its name, or a place of one by its number
pub data IsArgument (registers : List Register) : List (List ℕ) → Spot → Type 0 where
  register : {name : List ℕ} → {first size : ℕ} → NamesRegister registers name first size
      → IsArgument registers (name ∷ []) (Whole first size)
  place : {name digits : List ℕ} → {first size index : ℕ}
      → NamesRegister registers name first size → IsNumber digits index → index < size
      → IsArgument registers (bracketed name digits) (Line (first + index))

-- arguments, parted by commas
pub data AreArguments (registers : List Register) : List (List ℕ) → List Spot → Type 0 where
  last : {words : List (List ℕ)} → {spot : Spot} → IsArgument registers words spot
      → AreArguments registers words (spot ∷ [])
  before : (words others : List (List ℕ)) → {spot : Spot} → {spots : List Spot}
      → IsArgument registers words spot → AreArguments registers others spots
      → AreArguments registers (words ++ codes "," ∷ others) (spot ∷ spots)

-- The words of a statement, what was said before it, and what is said with it: the include, which
-- may stand once; a declaration; or a barrier or gates.
pub data Says : List (List ℕ) → Said → Said → Type 0 where
  includes : {said : Said} → said.included ≡ false
      → Says (codes "include" ∷ codes "\"qelib1.inc\"" ∷ codes ";" ∷ []) said
      (record said { included = true })
  declares : (kind : RegisterKind) → {name digits : List ℕ} → (size : ℕ) → {said : Said}
      → IsName name → ¬ IsAmong name said.names → IsNumber digits size → 1 ≤ size
      → HasRoom kind size (lines_of_all said.registers)
      → Says (kind_word kind ∷ (bracketed name digits ++ codes ";" ∷ [])) said
      (declared kind name size said)
  applies : (usage : Use) → {word : List ℕ} → (arguments : List (List ℕ)) → (spots : List Spot)
      → {said after : Said} → IsUseWord word said.included usage
      → AreArguments said.registers arguments spots → Ends usage spots said after
      → Says (word ∷ (arguments ++ codes ";" ∷ [])) said after

-- the tokens are those of statements, which say so much one after another
pub record AreStatements (tokens : List (List ℕ)) (before after : Said) : Type 0 where
  pub statements : List (List (List ℕ))
  pub tokens_are : tokens ≡ flat_map (λ words. words) statements
  pub say : readings.LeadTo Says statements before after

-- tokens are the head, and then statements
pub record AreHeadAndStatements (tokens : List (List ℕ)) (said : Said) : Type 0 where
  pub behind : List (List ℕ)
  pub tokens_are : tokens ≡ head_words ++ behind
  pub statements : AreStatements behind nothing_said said

-- Tokens lead from the head of a text to the end of a statement exactly where they are the head and
-- statements.
abbrev pub FilesAreStatements : Type 0
FilesAreStatements = (tokens : List (List ℕ)) (said : Said)
    → LeadTo tokens head (starts said) ↔ AreHeadAndStatements tokens said

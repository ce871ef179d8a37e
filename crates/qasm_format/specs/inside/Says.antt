-- What the parts of the reader say of the tokens that they take.
use Rattle.std.specs.Prelude.{◌≡◌, ℕ, ◌+◌, ◌<◌, ◌≤◌, Bool, true, false, ◌⊎◌, List, [], ◌∷◌, ◌++◌, length, codes}
use Rattle.std.specs.List.{AllByRecursion}
use Rattle.std.specs.Str.Parse.{digits_value}
use Rattle.revc_base.specs.declared.limits.TheConstants.{MOST_NAME_BYTES}
use Rattle.revc_base.specs.declared.place.Place.{Place}
use Rattle.qasm_format.specs.declared.file.QasmFault.{QasmFault}
use Rattle.qasm_format.specs.declared.file.QasmFault.TheVariants.{Token, Limit, Memory}
use Rattle.qasm_format.specs.declared.file.Register.{Register}
use Rattle.qasm_format.specs.declared.spots.Spot.{Spot}
use Rattle.qasm_format.specs.declared.spots.Spot.TheVariants.{Line, Whole}
use Rattle.qasm_format.specs.declared.said.Said.{Said as Held}
use Rattle.qasm_format.specs.declared.words.Use.{Use}
use Rattle.qasm_format.specs.declared.words.Use.TheVariants.{Barrier, Flip}
use Rattle.qasm_format.specs.declared.words.RegisterKind.{RegisterKind}
use Rattle.mct_circuit.specs.Gates.{GateView, AreGatesOn}
use Rattle.circuit_plans.specs.declared.plan.TheConstants.{MOST_LINES, MOST_GATES}
use Rattle.qasm_lexer.specs.Tokens.{is_identifier, is_number, Left, Takes}
use Rattle.qasm_lexer.specs.declared.words.TheConstants.{MOST_DIGITS}
use Rattle.qasm_format.specs.Registers.{lines_of_all}
use Rattle.qasm_format.specs.Stages.{Said, Stage, starts, wants, wants_size, wants_argument, behind_name, wants_index, behind_argument}
use Rattle.qasm_format.specs.Stages.{declared, HasRoom, StandForGates}
use Rattle.qasm_format.specs.Stages.{Leads}
use Rattle.qasm_format.specs.Qasm.{Reads}
use Rattle.qasm_format.specs.Faults.{IsStop}

-- this word led on, whatever comes behind it
pub record ReadsWord (old new : Left) (wanted : List ℕ) : Type 0 where
  pub says : (after : Stage) → Reads old new (wants wanted after) after

pub record StopsAtWord (old : Left) (wanted : List ℕ) (fault : QasmFault) : Type 0 where
  pub says : (after : Stage) → IsStop old (wants wanted after) fault

-- a token of another kind
pub record IsOtherToken (is_kind : List ℕ → Bool) (old : Left) (at : Place) : Type 0 where
  pub word : List ℕ
  pub new : Left
  pub takes : Takes old new word at
  pub other : is_kind word ≡ false

-- a token of this kind that is too long
pub record IsLongToken (is_kind : List ℕ → Bool) (most : ℕ) (old : Left) (at : Place) : Type 0 where
  pub word : List ℕ
  pub new : Left
  pub takes : Takes old new word at
  pub spelled : is_kind word ≡ true
  pub long : most < length word

-- why a token of so many bytes is refused: it is of another kind, or too long
abbrev pub IsUnfit : (at : Place) → (is_kind : Bool) → (len most : ℕ) → QasmFault → Type 0
IsUnfit at is_kind len most (Token place) = (place ≡ at) × (is_kind ≡ false)
IsUnfit at is_kind len most (Limit place) = (place ≡ at) × (is_kind ≡ true) × (most < len)
IsUnfit at is_kind len most (Memory _) = ⊥

-- why no token of this kind, of at most so many bytes, was taken
abbrev pub IsTokenFault : (List ℕ → Bool) → ℕ → Left → QasmFault → Type 0
IsTokenFault is_kind most old (Token at) = IsOtherToken is_kind old at
IsTokenFault is_kind most old (Limit at) = IsLongToken is_kind most old at
IsTokenFault is_kind most old (Memory _) = ⊥

abbrev pub IsNameFault : Left → QasmFault → Type 0
IsNameFault old fault = IsTokenFault is_identifier MOST_NAME_BYTES old fault

abbrev pub IsNumberFault : Left → QasmFault → Type 0
IsNumberFault old fault = IsTokenFault is_number MOST_DIGITS old fault

-- a name was taken
pub record TakesName (old new : Left) (word : List ℕ) (at : Place) : Type 0 where
  pub takes : Takes old new word at
  pub spelled : is_identifier word ≡ true
  pub few : length word ≤ MOST_NAME_BYTES

-- digits of this value were taken
pub record TakesNumber (old new : Left) (value : ℕ) (at : Place) : Type 0 where
  pub word : List ℕ
  pub takes : Takes old new word at
  pub spelled : is_number word ≡ true
  pub few : length word ≤ MOST_DIGITS
  pub worth : digits_value 10 word ≡ value

-- two words that are wanted, whatever comes behind them
pub record ReadsWords (old new : Left) (one other : List ℕ) : Type 0 where
  pub says : (after : Stage) → Reads old new (wants one (wants other after)) after

pub record StopsAtWords (old : Left) (one other : List ℕ) (fault : QasmFault) : Type 0 where
  pub says : (after : Stage) → IsStop old (wants one (wants other after)) fault

-- a size in square brackets and the end of the statement were read, where so many lines stand
pub record ReadsSize (old new : Left) (kind : RegisterKind) (count size : ℕ) : Type 0 where
  pub says : (name : List ℕ) (said : Said) → lines_of_all said.registers ≡ count
      → Reads old new (wants (codes "[") (wants_size kind name said))
      (starts (declared kind name size said))
  pub some : 1 ≤ size
  pub room : HasRoom kind size count

pub record StopsAtSize (old : Left) (kind : RegisterKind) (count : ℕ)
    (fault : QasmFault) : Type 0 where
  pub says : (name : List ℕ) (said : Said) → lines_of_all said.registers ≡ count
      → IsStop old (wants (codes "[") (wants_size kind name said)) fault

-- the stage behind an argument, before the next token
abbrev pub behind_spot : Use → List Spot → Spot → Said → Stage
behind_spot usage spots (Line at) said = behind_argument usage (spots ++ Line at ∷ []) said
behind_spot usage spots (Whole first size) said = behind_name usage spots first size said

-- lines below a number
abbrev pub SpotBelow : ℕ → Spot → Type 0
SpotBelow n (Line at) = at < n
SpotBelow n (Whole first size) = first + size ≤ n

-- an argument was read, and the token behind it was taken: no `[` behind a whole register
pub record ReadsArgument (old new : Left) (registers : List Register) (spot : Spot)
    (word : List ℕ) (at : Place) : Type 0 where
  pub mid : Left
  pub reads : (usage : Use) (spots : List Spot) (said : Said) → said.registers ≡ registers
      → Reads old mid (wants_argument usage spots said) (behind_spot usage spots spot said)
  pub takes : Takes mid new word at
  pub closed : (first size : ℕ) → spot ≡ Whole first size → ¬ (word ≡ codes "[")
  pub fewer : length new.bytes < length old.bytes
  pub below : SpotBelow (lines_of_all registers) spot

pub record StopsAtArgument (old : Left) (registers : List Register)
    (fault : QasmFault) : Type 0 where
  pub says : (usage : Use) (spots : List Spot) (said : Said) → said.registers ≡ registers
      → IsStop old (wants_argument usage spots said) fault

-- the index behind a bracket was read, and the token behind the argument was taken
pub record ReadsIndex (old new : Left) (first size : ℕ) (spot : Spot) (word : List ℕ)
    (at : Place) : Type 0 where
  pub index : ℕ
  pub line : spot ≡ Line (first + index)
  pub inside : index < size
  pub mid : Left
  pub reads : (usage : Use) (spots : List Spot) (said : Said)
      → Reads old mid (wants_index usage spots first size said)
      (behind_argument usage (spots ++ Line (first + index) ∷ []) said)
  pub takes : Takes mid new word at

pub record StopsAtIndex (old : Left) (first size : ℕ) (fault : QasmFault) : Type 0 where
  pub says : (usage : Use) (spots : List Spot) (said : Said)
      → IsStop old (wants_index usage spots first size said) fault

-- an argument was read and put behind the others, and the token behind it was taken
pub record PushesSpot (old new : Left) (registers : List Register) (before after : List Spot)
    (word : List ℕ) (at : Place) : Type 0 where
  pub spot : Spot
  pub reads : ReadsArgument old new registers spot word at
  pub pushed : after ≡ before ++ spot ∷ []

-- a barrier was read, behind its word
pub record ReadsBarrier (old new : Left) (registers : List Register) : Type 0 where
  pub reads : (said : Said) → said.registers ≡ registers
      → Reads old new (wants_argument Barrier [] said) (starts said)

pub record StopsAtBarrier (old : Left) (registers : List Register)
    (fault : QasmFault) : Type 0 where
  pub says : (said : Said) → said.registers ≡ registers
      → IsStop old (wants_argument Barrier [] said) fault

-- what statements said so far, as the reader holds it
abbrev pub said_of : Held → Said
said_of held = record {
  included = held.included;
  names = held.declared.names;
  registers = held.declared.registers;
  gates = held.gates.items;
}

-- nothing was said before
pub record IsFirst (held : Held) : Type 0 where
  pub included : held.included ≡ false
  pub declared : held.declared ≡ record { names = []; registers = [] }
  pub gates : held.gates.items ≡ []

-- the gates stand on the lines of the registers, within their limit
pub record IsSound (held : Held) : Type 0 where
  pub placed : AreGatesOn (lines_of_all held.declared.registers) held.gates.items
  pub few : length held.gates.items ≤ MOST_GATES

-- the arguments stand for these gates, which were put behind the others
pub record AddsGates (spots : List Spot) (old new : List GateView) : Type 0 where
  pub more : List GateView
  pub stand : (controls : ℕ) → length spots ≡ controls + 1 → StandForGates controls spots more
  pub few : length old + length more ≤ MOST_GATES
  pub placed : (lines : ℕ) → AllByRecursion (SpotBelow lines) spots → AreGatesOn lines more
  pub added : new ≡ old ++ more

-- the arguments stand for no gates
pub record StandForNone (spots : List Spot) : Type 0 where
  pub says : (controls : ℕ) (gates : List GateView) → ¬ StandForGates controls spots gates

-- the arguments stand for gates by which the gates pass their limit
pub record PassGates (spots : List Spot) (old : List GateView) : Type 0 where
  pub more : List GateView
  pub stand : (controls : ℕ) → length spots ≡ controls + 1 → StandForGates controls spots more
  pub many : MOST_GATES < length old + length more
  pub all : (controls : ℕ) (gates : List GateView) → StandForGates controls spots gates
      → MOST_GATES < length old + length gates

-- the arguments stand for gates within their limit
pub record StandForFew (spots : List Spot) (old : List GateView) : Type 0 where
  pub more : List GateView
  pub stand : (controls : ℕ) → length spots ≡ controls + 1 → StandForGates controls spots more
  pub few : length old + length more ≤ MOST_GATES

-- why gates that end at a place were not added; memory is wanted for gates within their limit alone
abbrev pub IsGateFault : Place → List Spot → List GateView → QasmFault → Type 0
IsGateFault end spots old (Token at) = (at ≡ end) × StandForNone spots
IsGateFault end spots old (Limit at) = (at ≡ end) × PassGates spots old
IsGateFault end spots old (Memory _) = StandForFew spots old

-- controls and a target were read, and the end of the statement behind them, at this place
pub record ReadsSpots (old new : Left) (registers : List Register) (controls : ℕ)
    (spots : List Spot) (end : Place) : Type 0 where
  pub counted : length spots ≡ controls + 1
  pub below : AllByRecursion (SpotBelow (lines_of_all registers)) spots
  pub few : lines_of_all registers ≤ MOST_LINES
  pub ends : (said : Said) (gates : List GateView) → said.registers ≡ registers
      → AddsGates spots said.gates gates
      → Reads old new (wants_argument (Flip controls) [] said)
      (starts (record said { gates = gates }))
  pub fails : (said : Said) (fault : QasmFault) → said.registers ≡ registers
      → IsGateFault end spots said.gates fault
      → IsStop old (wants_argument (Flip controls) [] said) fault

pub record StopsAtSpots (old : Left) (registers : List Register) (controls : ℕ)
    (fault : QasmFault) : Type 0 where
  pub says : (said : Said) → said.registers ≡ registers
      → IsStop old (wants_argument (Flip controls) [] said) fault

-- no statement is left, and the text may end
pub record EndsText (old new : Left) (said : Said) : Type 0 where
  pub at : Place
  pub takes : Takes old new [] at
  pub may : 1 ≤ lines_of_all said.registers

-- a statement was read, or the text ended
pub record ReadsStatement (old new : Left) (before after : Said) : Type 0 where
  pub reads : Reads old new (starts before) (starts after)
  pub fewer : length new.bytes < length old.bytes

abbrev pub GoesOn : Bool → Left → Left → Held → Held → Type 0
GoesOn true old new before after = ReadsStatement old new (said_of before) (said_of after)
GoesOn false old new before after = (after ≡ before) × EndsText old new (said_of before)

-- a statement was read behind its first word
pub record ReadsBehind (old new : Left) (word : List ℕ) (before after : Said) : Type 0 where
  pub next : Stage
  pub begins : Leads word (starts before) next
  pub reads : Reads old new next (starts after)

-- the first word begins no statement
pub record BeginsNone (word : List ℕ) (said : Said) : Type 0 where
  pub nowhere : (to : Stage) → ¬ Leads word (starts said) to

-- a statement stops behind its first word
pub record StopsOn (old : Left) (word : List ℕ) (said : Said) (fault : QasmFault) : Type 0 where
  pub next : Stage
  pub begins : Leads word (starts said) next
  pub stops : IsStop old next fault

-- why a statement was not read: its first word, at this place, begins none, or it stops behind
abbrev pub StopsBehind : Left → List ℕ → Place → Said → QasmFault → Type 0
StopsBehind old word at said fault =
    ((fault ≡ Token at) × BeginsNone word said) ⊎ StopsOn old word said fault

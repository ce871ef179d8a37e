-- The rules of an OpenQASM text, token by token: each token leads from one stage of the text to the
-- next.
use Rattle.std.specs.Prelude.{◌≡◌, ℕ, ◌+◌, ◌<◌, ◌≤◌, Bool, true, false, ◌⊎◌, List, [], ◌∷◌, ◌++◌, length, map, codes}
use Rattle.std.specs.List.{AllByRecursion, range_with_len}
use Rattle.list_facts.specs.Lists.{IsAmong}
use Rattle.mct_circuit.specs.Gates.{GateView, HasDifferentLines, flip_of}
use Rattle.circuit_plans.specs.declared.plan.TheConstants.{MOST_LINES, MOST_GATES}
use Rattle.revc_base.specs.declared.limits.TheConstants.{MOST_NAME_BYTES}
use Rattle.format_parts.specs.Readings as readings
use Rattle.qasm_format.specs.declared.words.RegisterKind.{RegisterKind}
use Rattle.qasm_format.specs.declared.words.RegisterKind.TheVariants.{Qubits, Bits}
use Rattle.qasm_format.specs.declared.words.Use.{Use}
use Rattle.qasm_format.specs.declared.words.Use.TheVariants.{Barrier, Flip}
use Rattle.qasm_format.specs.declared.spots.Spot.{Spot}
use Rattle.qasm_format.specs.declared.spots.Spot.TheVariants.{Line, Whole}
use Rattle.qasm_lexer.specs.declared.words.TheConstants.{MOST_DIGITS}
use Rattle.qasm_lexer.specs.Tokens.{is_identifier, is_number}
use Rattle.qasm_format.specs.declared.file.Register.{Register}
use Rattle.qasm_format.specs.Registers.{IsName, IsNumber, lines_of_all, IsLaid, line_at, AreSpread}

-- what statements said so far: whether the include stood, all names that were declared, the
-- registers and the gates
pub record Said : Type 0 where
  pub included : Bool
  pub names : List (List ℕ)
  pub registers : List Register
  pub gates : List GateView

abbrev pub nothing_said : Said
nothing_said = record { included = false; names = []; registers = []; gates = [] }

-- how far a text has come
pub data Stage : Type 0 where
  -- a statement may begin
  starts : Said → Stage
  -- this word comes next
  wants : List ℕ → Stage → Stage
  -- the name and the size of a register
  wants_name : RegisterKind → Said → Stage
  wants_size : RegisterKind → List ℕ → Said → Stage
  -- an argument behind these; a register was named, with its first line and its size; an index;
  -- behind an argument
  wants_argument : Use → List Spot → Said → Stage
  behind_name : Use → List Spot → (first size : ℕ) → Said → Stage
  wants_index : Use → List Spot → (first size : ℕ) → Said → Stage
  behind_argument : Use → List Spot → Said → Stage

-- the first stage of a text
abbrev pub head : Stage
head = wants (codes "OPENQASM") (wants (codes "2.0") (wants (codes ";") (starts nothing_said)))

-- ---- the include

-- behind the word of the include
abbrev pub wants_library : Said → Stage
wants_library said =
    wants (codes "\"qelib1.inc\"") (wants (codes ";") (starts (record said { included = true })))

pub record Includes (word : List ℕ) (said : Said) (next : Stage) : Type 0 where
  pub spelled : word ≡ codes "include"
  pub once : said.included ≡ false
  pub leads : next ≡ wants_library said

-- ---- declarations

abbrev pub kind_word : RegisterKind → List ℕ
kind_word Qubits = codes "qreg"
kind_word Bits = codes "creg"

pub record Declares (word : List ℕ) (said : Said) (next : Stage) : Type 0 where
  pub kind : RegisterKind
  pub spelled : word ≡ kind_word kind
  pub leads : next ≡ wants_name kind said

-- the registers of qubits with one more of this kind: bits add none
abbrev pub kind_registers : RegisterKind → List ℕ → ℕ → List Register → List Register
kind_registers Qubits name size registers = registers ++ record { name = name; size = size } ∷ []
kind_registers Bits name size registers = registers

-- what is said with a register of this kind
abbrev pub declared : RegisterKind → List ℕ → ℕ → Said → Said
declared kind name size said = record said {
  names = said.names ++ name ∷ [];
  registers = kind_registers kind name size said.registers;
}

-- with so many lines and a register of this size the lines stay within their limit; bits have no
-- lines
abbrev pub HasRoom : RegisterKind → (size lines : ℕ) → Type 0
HasRoom Qubits size lines = lines + size ≤ MOST_LINES
HasRoom Bits size lines = Unit {0}

pub record Names (word : List ℕ) (kind : RegisterKind) (said : Said) (next : Stage) : Type 0 where
  pub named : IsName word
  pub fresh : ¬ IsAmong word said.names
  pub leads : next ≡ wants (codes "[") (wants_size kind word said)

pub record Sizes (word : List ℕ) (kind : RegisterKind) (name : List ℕ) (said : Said)
    (next : Stage) : Type 0 where
  pub size : ℕ
  pub number : IsNumber word size
  pub some : 1 ≤ size
  pub room : HasRoom kind size (lines_of_all said.registers)
  pub leads : next ≡ wants (codes "]") (wants (codes ";") (starts (declared kind name size said)))

-- ---- gates and barriers

-- the word of a barrier, or of a gate with so many controls; only `CX` needs no include
abbrev pub IsUseWord : List ℕ → Bool → Use → Type 0
IsUseWord word included Barrier = word ≡ codes "barrier"
IsUseWord word included (Flip controls) =
    ((word ≡ codes "x") × (included ≡ true) × (controls ≡ 0))
    ⊎ ((word ≡ codes "cx") × (included ≡ true) × (controls ≡ 1))
    ⊎ ((word ≡ codes "CX") × (controls ≡ 1))
    ⊎ ((word ≡ codes "ccx") × (included ≡ true) × (controls ≡ 2))

pub record Begins (word : List ℕ) (said : Said) (next : Stage) : Type 0 where
  pub usage : Use
  pub spelled : IsUseWord word said.included usage
  pub leads : next ≡ wants_argument usage [] said

pub record Arguments (word : List ℕ) (usage : Use) (spots : List Spot) (said : Said)
    (next : Stage) : Type 0 where
  pub first : ℕ
  pub size : ℕ
  pub spelled : is_identifier word ≡ true
  pub few : length word ≤ MOST_NAME_BYTES
  pub laid : IsLaid said.registers word first size
  pub leads : next ≡ behind_name usage spots first size said

pub record Indexes (word : List ℕ) (usage : Use) (spots : List Spot) (first size : ℕ) (said : Said)
    (next : Stage) : Type 0 where
  pub index : ℕ
  pub number : IsNumber word index
  pub inside : index < size
  pub leads : next ≡ wants (codes "]")
      (behind_argument usage (spots ++ Line (first + index) ∷ []) said)

-- more arguments may follow
abbrev pub MayGoOn : Use → List Spot → Type 0
MayGoOn Barrier spots = Unit {0}
MayGoOn (Flip controls) spots = length spots ≤ controls

-- the i-th gate of a statement
abbrev pub gate_at : List Spot → Spot → ℕ → GateView
gate_at controls target i = flip_of (map (line_at i) controls) (line_at i target)

-- a gate's arguments stand for these gates, each on different lines; the last one is the target
pub record StandForGates (controls : ℕ) (spots : List Spot) (gates : List GateView) : Type 0 where
  pub controlling : List Spot
  pub target : Spot
  pub count : ℕ
  pub parts : spots ≡ controlling ++ target ∷ []
  pub counted : length controlling ≡ controls
  pub spread : AreSpread spots count
  pub are : gates ≡ map (gate_at controlling target) (range_with_len 0 count)
  pub different : AllByRecursion HasDifferentLines gates

-- a statement ends behind these arguments, and so much is said with it
abbrev pub Ends : Use → List Spot → Said → Said → Type 0
Ends Barrier spots said after = after ≡ said
Ends (Flip controls) spots said after =
    (gates : List GateView) × StandForGates controls spots gates
    × (length said.gates + length gates ≤ MOST_GATES)
    × (after ≡ record said { gates = said.gates ++ gates })

abbrev pub Closes : List ℕ → Use → List Spot → Said → Stage → Type 0
Closes word usage spots said next =
    ((word ≡ codes ",") × MayGoOn usage spots × (next ≡ wants_argument usage spots said))
    ⊎ ((word ≡ codes ";") × ((after : Said) × Ends usage spots said after × (next ≡ starts after)))

-- ---- steps

-- The token leads from one stage to another: it keeps the rules, where it stands.
abbrev pub Leads : List ℕ → Stage → Stage → Type 0
Leads word (starts said) next =
    Includes word said next ⊎ Declares word said next ⊎ Begins word said next
Leads word (wants wanted after) next = (word ≡ wanted) × (next ≡ after)
Leads word (wants_name kind said) next = Names word kind said next
Leads word (wants_size kind name said) next = Sizes word kind name said next
Leads word (wants_argument usage spots said) next = Arguments word usage spots said next
Leads word (behind_name usage spots first size said) next =
    ((word ≡ codes "[") × (next ≡ wants_index usage spots first size said))
    ⊎ Closes word usage (spots ++ Whole first size ∷ []) said next
Leads word (wants_index usage spots first size said) next =
    Indexes word usage spots first size said next
Leads word (behind_argument usage spots said) next = Closes word usage spots said next

-- the tokens lead so, one after another
abbrev pub LeadTo : List (List ℕ) → Stage → Stage → Type 0
LeadTo words from to = readings.LeadTo Leads words from to

-- ---- limits

abbrev pub IsLongName : List ℕ → Type 0
IsLongName word = (is_identifier word ≡ true) × (MOST_NAME_BYTES < length word)

abbrev pub IsLongNumber : List ℕ → Type 0
IsLongNumber word = (is_number word ≡ true) × (MOST_DIGITS < length word)

-- a size by which the lines pass their limit
pub record HasManyLines (word : List ℕ) (kind : RegisterKind) (said : Said) : Type 0 where
  pub size : ℕ
  pub number : IsNumber word size
  pub some : 1 ≤ size
  pub many : ¬ HasRoom kind size (lines_of_all said.registers)

-- arguments that stand for gates by which the gates pass their limit
abbrev pub HaveManyGates : Use → List Spot → Said → Type 0
HaveManyGates Barrier spots said = ⊥
HaveManyGates (Flip controls) spots said =
    (gates : List GateView) × StandForGates controls spots gates
    × (MOST_GATES < length said.gates + length gates)

-- the token passes a limit, and keeps the form
abbrev pub PassesLimit : List ℕ → Stage → Type 0
PassesLimit word (starts said) = ⊥
PassesLimit word (wants wanted after) = ⊥
PassesLimit word (wants_name kind said) = IsLongName word
PassesLimit word (wants_size kind name said) = IsLongNumber word ⊎ HasManyLines word kind said
PassesLimit word (wants_argument usage spots said) = IsLongName word
PassesLimit word (behind_name usage spots first size said) =
    (word ≡ codes ";") × HaveManyGates usage (spots ++ Whole first size ∷ []) said
PassesLimit word (wants_index usage spots first size said) = IsLongNumber word
PassesLimit word (behind_argument usage spots said) =
    (word ≡ codes ";") × HaveManyGates usage spots said

-- a text may end here: no statement is open, and there is a line
abbrev pub MayEnd : Stage → Type 0
MayEnd (starts said) = 1 ≤ lines_of_all said.registers
MayEnd (wants wanted after) = ⊥
MayEnd (wants_name kind said) = ⊥
MayEnd (wants_size kind name said) = ⊥
MayEnd (wants_argument usage spots said) = ⊥
MayEnd (behind_name usage spots first size said) = ⊥
MayEnd (wants_index usage spots first size said) = ⊥
MayEnd (behind_argument usage spots said) = ⊥

-- `run`: the bits that a circuit gives on the bits of each word.
use Rattle.std.specs.Prelude.{◌≡◌, ℕ, ◌+◌, Bool, true, false, List, [], ◌∷◌, ◌++◌, length, cond, count_by, Some}
use Rattle.command_answers.specs.Outcomes.{Promise, exact_promise}
use Rattle.std.specs.List.{AllByRecursion, flat_map}
use Rattle.mct_circuit.specs.Gates.{line_map}
use Rattle.real_format.specs.declared.file.Mark.{Mark}
use Rattle.real_format.specs.declared.file.Mark.TheVariants.{Free, Zero, One}
use Rattle.revc_words.specs.declared.order.Format.{Format}
use Rattle.revc_words.specs.Words.{OrderView}
use Rattle.command_answers.specs.declared.fault.Fault.{Fault}
use Rattle.command_answers.specs.declared.fault.Fault.TheVariants.{Circuit, BadBits}
use Rattle.circuit_commands.specs.Circuits.{ReadCircuit, Means, IsCircuitRefusal, circuit_limit}
use Rattle.command_answers.specs.BitWords.{IsInputWord, bits_of}
use Rattle.command_answers.specs.Lines.{bits_text}

-- whether a line starts with a bit of the word
abbrev pub is_free : Mark → Bool
is_free Free = true
is_free Zero = false
is_free One = false

abbrev pub free_lines : List Mark → ℕ
free_lines marks = count_by is_free marks

-- the bits with which the lines start: those of the word in order of the free lines, and else by
-- the mark
abbrev pub started : List Mark → List Bool → List Bool
started [] bits = []
started (Zero ∷ marks) bits = false ∷ started marks bits
started (One ∷ marks) bits = true ∷ started marks bits
started (Free ∷ marks) [] = false ∷ started marks []
started (Free ∷ marks) (bit ∷ bits) = bit ∷ started marks bits

-- the last bits of the lines that are of use
abbrev pub kept : List Bool → List Bool → List Bool
kept [] bits = []
kept (useless ∷ garbage) [] = []
kept (useless ∷ garbage) (bit ∷ bits) =
    cond useless (kept garbage bits) (bit ∷ kept garbage bits)

-- what a circuit gives for a word
abbrev pub given_by : ReadCircuit → List ℕ → List Bool
given_by circuit word =
    kept circuit.garbage (line_map circuit.gates (started circuit.constants (bits_of word)))

-- each word has a bit for each free line of the circuit
abbrev pub AreInputs : ReadCircuit → List (List ℕ) → Type 0
AreInputs circuit words = AllByRecursion (IsInputWord (free_lines circuit.constants)) words

-- a line for each word
abbrev pub runs_text : ReadCircuit → List (List ℕ) → List ℕ
runs_text circuit words = flat_map (λ (word : List ℕ). bits_text (given_by circuit word)) words

-- the text means a circuit, each word is an input of it, and these are the bits that it gives, a
-- line for each word
pub record IsRun (from : Format) (words : List (List ℕ)) (text written : List ℕ)
    : Type 0 where
  pub circuit : ReadCircuit
  pub means : Means from text circuit
  pub fit : AreInputs circuit words
  pub lines : written ≡ runs_text circuit words

-- the word with this number, counted from 1, is the first that is no input of the circuit
pub record IsFirstUnfit (circuit : ReadCircuit) (words : List (List ℕ)) (number : ℕ)
    : Type 0 where
  pub before : List (List ℕ)
  pub word : List ℕ
  pub behind : List (List ℕ)
  pub cut : words ≡ before ++ word ∷ behind
  pub count : number ≡ length before + 1
  pub fit : AreInputs circuit before
  pub unfit : ¬ IsInputWord (free_lines circuit.constants) word

-- the text means a circuit, and this word is the first that is no input of it
pub record HasBadWord (from : Format) (words : List (List ℕ)) (text : List ℕ) (number : ℕ)
    : Type 0 where
  pub circuit : ReadCircuit
  pub means : Means from text circuit
  pub first : IsFirstUnfit circuit words number

-- what is written
abbrev pub Gives : OrderView → List ℕ → List ℕ → Type 0
Gives order text written = IsRun order.from order.bits text written

-- why nothing is
abbrev pub IsCause : OrderView → List ℕ → Fault → Type 0
IsCause order text (Circuit refusal) = IsCircuitRefusal order.from text refusal
IsCause order text (BadBits number) = HasBadWord order.from order.bits text number
IsCause order text _ = ⊥

-- the text means a circuit of which each word is an input
pub record CanRun (order : OrderView) (text : List ℕ) : Type 0 where
  pub circuit : ReadCircuit
  pub means : Means order.from text circuit
  pub fit : AreInputs circuit order.bits

-- where something is, unless memory or a device is wanting
abbrev pub Serves : OrderView → List ℕ → Type 0
Serves order text = CanRun order text

abbrev pub promise : Promise
promise = exact_promise (Some circuit_limit) (8 ∷ 12 ∷ []) Gives IsCause Serves

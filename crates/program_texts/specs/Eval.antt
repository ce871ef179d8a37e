-- `eval`: the bits that a program gives on the bits of a word.
use Rattle.std.specs.Prelude.{◌≡◌, ℕ, ◌+◌, Bool, List, sum, Some, [], ◌∷◌}
use Rattle.command_answers.specs.Outcomes.{Promise, exact_promise}
use Rattle.std.specs.List.{AllByRecursion}
use Rattle.revs_tape.specs.Tapes.{TapeView, Holds, IsFirstBroken}
use Rattle.revc_base.specs.declared.place.Place.{Place}
use Rattle.revs_parser.specs.WellFormed.{IsWellFormed}
use Rattle.revs_terms.specs.Programs.{widths_of}
use Rattle.revs_terms.specs.Runs.{HasOutput, IsTapeOf}
use Rattle.revs_terms.specs.Views.{ProgramView}
use Rattle.command_answers.specs.BitWords.{IsInputWord, bits_of}
use Rattle.command_answers.specs.Lines.{bits_text}
use Rattle.program_texts.specs.Refusals.{IsRefusal, program_limit}
use Rattle.revc_words.specs.Words.{OrderView, first_word}
use Rattle.command_answers.specs.declared.fault.Fault.{Fault}
use Rattle.command_answers.specs.declared.fault.Fault.TheVariants.{Refused, Claim, BadBits}

-- the text is well formed, the word is an input of its program, every claim holds on it, and these
-- are the bits of the program's output on it
pub record IsValueOf (text word : List ℕ) (value : List Bool) : Type 0 where
  pub program : ProgramView
  pub formed : IsWellFormed text program
  pub tape : TapeView
  pub tape_of : IsTapeOf program.params program.body tape
  pub fits : IsInputWord (sum (widths_of program.params)) word
  pub hold : AllByRecursion (Holds tape (bits_of word)) tape.claims
  pub output : HasOutput program.params program.body (bits_of word) value

-- the text is well formed, and the word is no input of its program
pub record IsBadWord (text word : List ℕ) : Type 0 where
  pub program : ProgramView
  pub formed : IsWellFormed text program
  pub unfit : ¬ IsInputWord (sum (widths_of program.params)) word

-- the text is well formed, the word is an input of its program, and the claim with this number,
-- counted from 1, is the first that fails on it; its term is at this place
pub record IsBroken (text word : List ℕ) (number : ℕ) (at : Place) : Type 0 where
  pub program : ProgramView
  pub formed : IsWellFormed text program
  pub tape : TapeView
  pub tape_of : IsTapeOf program.params program.body tape
  pub fits : IsInputWord (sum (widths_of program.params)) word
  pub before : ℕ
  pub first : IsFirstBroken tape (bits_of word) before
  pub count : number ≡ before + 1
  pub place : at ≡ first.named.at

-- these are the digits of the value of the text's program on the word, and a line feed
pub record IsEvaluated (text word written : List ℕ) : Type 0 where
  pub value : List Bool
  pub is : IsValueOf text word value
  pub digits : written ≡ bits_text value

-- why a word and a text give no value
abbrev pub Stops : List ℕ → List ℕ → Fault → Type 0
Stops text word (Refused refusal) = IsRefusal text refusal
Stops text word (Claim number at bits) = (bits ≡ bits_of word) × IsBroken text word number at
Stops text word (BadBits number) = (number ≡ 1) × IsBadWord text word
Stops text word _ = ⊥

-- what is written
abbrev pub Gives : OrderView → List ℕ → List ℕ → Type 0
Gives order text written = IsEvaluated text (first_word order.bits) written

-- why nothing is
abbrev pub IsCause : OrderView → List ℕ → Fault → Type 0
IsCause order text fault = Stops text (first_word order.bits) fault

-- where something is, unless memory or a device is wanting: the text and the word have a value
abbrev pub Serves : OrderView → List ℕ → Type 0
Serves order text = (value : List Bool) × IsValueOf text (first_word order.bits) value

abbrev pub promise : Promise
promise = exact_promise (Some program_limit) (3 ∷ 4 ∷ 12 ∷ []) Gives IsCause Serves

-- From a text to its program and its tape, and from a word to its bits, and why there are none.
use Rattle.std.specs.Prelude.{◌≡◌, ◌≢◌, ℕ, ◌≤◌, List, Err, length}
use Rattle.revs_run.specs.Faults.{IsRefused as IsStuckAlways}
use Rattle.revs_run.specs.declared.fault.RunFault.{RunFault}
use Rattle.name_scope.specs.Answers.{Answers}
use Rattle.name_scope.specs.declared.binding.ScopeFault.{ScopeFault}
use Rattle.revs_grammar.specs.Answers.{IsInputs}
use Rattle.revs_grammar.specs.Faults.{IsSyntax, IsNesting}
use Rattle.revs_lexer.specs.Tokens.{IsTokens, IsRefused, closed}
use Rattle.revs_lexer.specs.declared.token.LexFault.{LexFault}
use Rattle.revs_lexer.specs.declared.token.LexFault.TheVariants as lexer
use Rattle.revs_lexer.specs.declared.token.Token.{Token}
use Rattle.revs_parser.specs.WellFormed.{IsProgramText}
use Rattle.revs_parser.specs.declared.limits.TheConstants.{MOST_BYTES}
use Rattle.revs_parser.specs.declared.program.ParseFault.{ParseFault}
use Rattle.revs_parser.specs.declared.program.ParseFault.TheVariants as parser
use Rattle.revs_terms.specs.Scopes.{scope_verdict, bound_as}
use Rattle.revs_terms.specs.Views.{ProgramView}
use Rattle.command_answers.specs.declared.fault.Fault.{Fault}
use Rattle.command_answers.specs.declared.fault.Fault.TheVariants.{BadBits, Memory}
use Rattle.command_answers.specs.declared.fault.Refusal.TheVariants.{At}
use Rattle.command_answers.specs.BitWords.{IsInputWord}
use Rattle.program_texts.specs.Outcomes.{IsTextFault}
use Rattle.program_texts.specs.Refusals.{IsRefusal}
use Rattle.program_texts.specs.declared.fault.TextFault.{TextFault}
use Rattle.program_texts.specs.declared.fault.TextFault.TheVariants as texts

-- the program with its names bound
pub record IsBoundAs (p bound : ProgramView) : Type 0 where
  pub params : bound.params ≡ p.params
  pub body : scope_verdict p.params p.body ≡ bound_as bound.body

-- this holds of each text of the program
pub record ForTextsOf (p : ProgramView) (OfText : List ℕ → Type 0) : Type 0 where
  pub of_text : (text : List ℕ) → IsProgramText text p → OfText text

-- why a text leaves no tape: it is refused at a place, or there was no memory left
abbrev pub LeavesNoTape : List ℕ → TextFault → Type 0
LeavesNoTape text (texts.Refused kind at) = IsRefusal text (At kind at)
LeavesNoTape text (texts.Memory _) = Unit {0}

-- ---- each layer's fault is this fault of the text

abbrev pub OfLexer : LexFault → TextFault → Type 0
OfLexer why fault = (text : List ℕ) → length text ≤ MOST_BYTES
    → (why ≢ lexer.Memory _ → IsRefused text why) → LeavesNoTape text fault

-- the list of tokens is refused so, or there was no memory left
abbrev pub IsRefusedList : List Token → ParseFault → Type 0
IsRefusedList tokens (parser.Syntax number at) = IsSyntax tokens number at
IsRefusedList tokens (parser.Nesting at) = IsNesting tokens at
IsRefusedList tokens (parser.Inputs at) = IsInputs tokens at
IsRefusedList tokens (parser.Memory _) = Unit {0}

abbrev pub OfParser : ParseFault → TextFault → Type 0
OfParser why fault = (text : List ℕ) (tokens : List Token) → length text ≤ MOST_BYTES
    → IsTokens text tokens → IsRefusedList (closed text tokens) why → LeavesNoTape text fault

abbrev pub OfScope : ScopeFault → TextFault → Type 0
OfScope why fault = (p : ProgramView) → Answers (Err why) p.params (scope_verdict p.params p.body)
    → ForTextsOf p (λ text. LeavesNoTape text fault)

abbrev pub OfRun : RunFault → TextFault → Type 0
OfRun why fault = (p bound : ProgramView) → IsBoundAs p bound
    → IsStuckAlways bound.params bound.body why → ForTextsOf p (λ text. LeavesNoTape text fault)

-- a fault of a text is this fault of a command
abbrev pub OfText : TextFault → Fault → Type 0
OfText why fault = (text : List ℕ) → LeavesNoTape text why → IsTextFault text fault

-- ---- words of bits

-- why a word gives no input of so many bits, or there was no memory left, which is asked for only
-- where it gives one
abbrev pub IsBitsFault : ℕ → List ℕ → Fault → Type 0
IsBitsFault inputs word (BadBits number) = (number ≡ 1) × (¬ IsInputWord inputs word)
IsBitsFault inputs word (Memory _) = IsInputWord inputs word
IsBitsFault inputs word _ = ⊥

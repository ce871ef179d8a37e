-- Why a program text is refused.
use Rattle.std.specs.Prelude.{◌≡◌, Bool, ℕ, ◌<◌, ◌≤◌, List, length}
use Rattle.revc_base.specs.declared.place.Place.{Place}
use Rattle.revs_lexer.specs.declared.token.LexFault.TheVariants as lexer
use Rattle.revs_lexer.specs.declared.token.Token.{Token}
use Rattle.revs_lexer.specs.Tokens.{IsTokens, IsRefused, closed}
use Rattle.revs_grammar.specs.Answers.{IsInputs}
use Rattle.revs_grammar.specs.Faults.{IsSyntax, IsNesting}
use Rattle.command_answers.specs.declared.fault.Fault.TheVariants.{Refused}
use Rattle.command_answers.specs.declared.limit.TextLimit.{TextLimit}
use Rattle.command_answers.specs.declared.fault.FaultKind.{FaultKind}
use Rattle.command_answers.specs.declared.fault.FaultKind.TheVariants.{BadByte, LongName, LongNumber, Syntax, Nesting, Inputs, Unbound, TwoParams, Stuck}
use Rattle.command_answers.specs.declared.fault.Refusal.{Refusal}
use Rattle.command_answers.specs.declared.fault.Refusal.TheVariants.{TooLong, At}
use Rattle.revs_parser.specs.declared.limits.TheConstants.{MOST_BYTES}
use Rattle.revs_parser.specs.WellFormed.{IsProgramText}
use Rattle.revs_terms.specs.Views.{ProgramView}
use Rattle.revs_terms.specs.declared.cause.Cause.{Cause}
use Rattle.revs_terms.specs.Runs.{IsInput, IsStuck}
use Rattle.revs_terms.specs.Scopes.{scope_verdict, bound_as, two_params, unbound_name}
use Rattle.revs_terms.specs.Trees.{Tree}

-- the limit of the text of a program
abbrev pub program_limit : TextLimit
program_limit = record { bytes = MOST_BYTES; fault = Refused TooLong }

-- this holds of the tokens of the text, with `End` behind them
abbrev pub OfTokens : List ℕ → (List Token → Type 0) → Type 0
OfTokens text P = (tokens : List Token) × IsTokens text tokens × P (closed text tokens)

-- this holds of the program of the text
abbrev pub OfProgram : List ℕ → (ProgramView → Type 0) → Type 0
OfProgram text P = (p : ProgramView) × IsProgramText text p × P p

-- the names of the program are bound, and its run is stuck on every input, for this cause and at
-- this place
abbrev pub IsStuckFor : Cause → Place → ProgramView → Type 0
IsStuckFor cause at p =
    (tree : Tree) × (scope_verdict p.params p.body ≡ bound_as tree)
    × ((input : List Bool) → IsInput p.params input → IsStuck p.params tree input cause at)

-- the lexer's first refusal, what refuses the list of the text's tokens, or what refuses the text's
-- program
abbrev pub IsRefusedAt : List ℕ → FaultKind → Place → Type 0
IsRefusedAt text BadByte at = IsRefused text (lexer.BadByte at)
IsRefusedAt text LongName at = IsRefused text (lexer.LongName at)
IsRefusedAt text LongNumber at = IsRefused text (lexer.LongNumber at)
IsRefusedAt text Syntax at = OfTokens text (λ tokens. (number : ℕ) × IsSyntax tokens number at)
IsRefusedAt text Nesting at = OfTokens text (λ tokens. IsNesting tokens at)
IsRefusedAt text Inputs at = OfTokens text (λ tokens. IsInputs tokens at)
IsRefusedAt text Unbound at = OfProgram text (λ p. scope_verdict p.params p.body ≡ unbound_name at)
IsRefusedAt text TwoParams at = OfProgram text (λ p. scope_verdict p.params p.body ≡ two_params at)
IsRefusedAt text (Stuck cause) at = OfProgram text (IsStuckFor cause at)

-- the text has too many bytes, or is refused at a place
abbrev pub IsRefusal : List ℕ → Refusal → Type 0
IsRefusal text TooLong = MOST_BYTES < length text
IsRefusal text (At kind at) = (length text ≤ MOST_BYTES) × IsRefusedAt text kind at

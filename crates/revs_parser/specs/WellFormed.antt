-- The program of a text, and the texts that are well formed.
use Rattle.std.specs.Prelude.{◌≡◌, ℕ, ◌≤◌, List, length}
use Rattle.revs_lexer.specs.declared.token.Token.{Token}
use Rattle.revs_lexer.specs.Tokens.{IsTokens, closed}
use Rattle.revs_grammar.specs.Answers.{IsProgramOf}
use Rattle.revs_parser.specs.declared.limits.TheConstants.{MOST_BYTES}
use Rattle.revs_terms.specs.Runs.{EndsOnAll}
use Rattle.revs_terms.specs.Scopes.{scope_verdict, bound_as}
use Rattle.revs_terms.specs.Trees.{Tree}
use Rattle.revs_terms.specs.Views.{ProgramView}

-- The text is that of this program, whose names are not bound yet: it has at most 1,048,576 bytes,
-- and its tokens are the program's sentence within limits.
pub record IsProgramText (text : List ℕ) (p : ProgramView) : Type 0 where
  pub short : length text ≤ MOST_BYTES
  pub tokens : List Token
  pub cut : IsTokens text tokens
  pub sentence : IsProgramOf (closed text tokens) p.params p.body

-- The text is well formed, and that of this program: the names of its body are bound as the scope
-- rule says, and the run of the program ends on every input.
pub record IsWellFormed (text : List ℕ) (p : ProgramView) : Type 0 where
  pub unbound : Tree
  pub text_of : IsProgramText text (record p { body = unbound })
  pub bound : scope_verdict p.params unbound ≡ bound_as p.body
  pub run : EndsOnAll p.params p.body

-- A text is that of one program, with its names bound or not.
abbrev pub OneProgramOfText : Type 0
OneProgramOfText =
    (text : List ℕ) (p q : ProgramView)
    → (IsProgramText text p → IsProgramText text q → p ≡ q)
    × (IsWellFormed text p → IsWellFormed text q → p ≡ q)

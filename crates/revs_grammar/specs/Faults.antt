-- Why a list of tokens is refused, and where.
use Rattle.std.specs.Prelude.{◌≡◌, ℕ, List, [], ◌∷◌, ◌++◌, length}
use Rattle.revc_base.specs.declared.place.Place.{Place}
use Rattle.revs_lexer.specs.declared.token.Tok.{Tok}
use Rattle.revs_lexer.specs.declared.token.Tok.TheVariants as toks
use Rattle.revs_lexer.specs.declared.token.Token.{Token}
use Rattle.revs_lexer.specs.Tokens.{IsEnded}
use Rattle.revs_terms.specs.declared.program.Param.{Param}
use Rattle.revs_terms.specs.Trees.{Tree}
use Rattle.revs_grammar.specs.Sentences.{IsSentence, Begins, HasFewLevels, BeginsLow}
use Rattle.revs_grammar.specs.Answers.{IsProgramOf, IsInputs}

-- The tokens are the sentence of some program within limits, and `End`.
pub record IsWithinLimits (tokens : List Token) : Type 0 where
  pub params : List Param
  pub body : Tree
  pub program : IsProgramOf tokens params body

-- No sentence begins with these tokens and the named one, of this kind, behind them. At `End` they
-- are no sentence.
abbrev pub CannotStandAs : Tok → List Token → Token → Type 0
CannotStandAs toks.End front named = ¬ IsSentence front
CannotStandAs tok front named = ¬ Begins (front ++ named ∷ [])

abbrev pub CannotStand : List Token → Token → Type 0
CannotStand front named = CannotStandAs named.tok front named

-- The token with this number, counted from 0, and with this place is the first that cannot stand
-- where it stands: some sentence begins with the tokens before it, which open no level above 100,
-- and no sentence with the tokens through it.
pub record IsSyntax (tokens : List Token) (number : ℕ) (at : Place) : Type 0 where
  pub front : List Token
  pub named : Token
  pub rest : List Token
  pub cut : tokens ≡ front ++ named ∷ rest
  pub count : length front ≡ number
  pub place : named.at ≡ at
  pub begins : BeginsLow front
  pub refused : CannotStand front named

-- The token at this place is the first that opens level 101: some sentence begins with the tokens
-- through it, and those before it open no level above 100.
pub record IsNesting (tokens : List Token) (at : Place) : Type 0 where
  pub front : List Token
  pub named : Token
  pub rest : List Token
  pub cut : tokens ≡ front ++ named ∷ rest
  pub place : named.at ≡ at
  pub begins : Begins (front ++ named ∷ [])
  pub few : HasFewLevels front
  pub deep : ¬ HasFewLevels (front ++ named ∷ [])

-- What a list of tokens is found to be.
pub data Verdict : Type 0 where
  within_limits : Verdict
  syntax : ℕ → Place → Verdict
  nesting : Place → Verdict
  inputs : Place → Verdict

abbrev pub IsVerdict : List Token → Verdict → Type 0
IsVerdict tokens within_limits = IsWithinLimits tokens
IsVerdict tokens (syntax number at) = IsSyntax tokens number at
IsVerdict tokens (nesting at) = IsNesting tokens at
IsVerdict tokens (inputs at) = IsInputs tokens at

-- Each list of tokens with one `End`, at its end, has a verdict.
abbrev pub SomeVerdict : Type 0
SomeVerdict =
    (tokens : List Token) → IsEnded tokens → (verdict : Verdict) × IsVerdict tokens verdict

-- No list of tokens has two verdicts.
abbrev pub OneVerdict : Type 0
OneVerdict =
    (tokens : List Token) (verdict other : Verdict) → IsVerdict tokens verdict
    → IsVerdict tokens other
    → verdict ≡ other

-- What a list of tokens is, where it is a sentence with no level above 100.
use Rattle.std.specs.Prelude.{◌≡◌, List, [], ◌∷◌, ◌++◌}
use Rattle.revc_base.specs.declared.place.Place.{Place}
use Rattle.revs_lexer.specs.declared.token.Tok.TheVariants as toks
use Rattle.revs_lexer.specs.declared.token.Token.{Token}
use Rattle.revs_terms.specs.declared.program.Param.{Param}
use Rattle.revs_terms.specs.Programs.{AreParams}
use Rattle.revs_terms.specs.Trees.{Tree}
use Rattle.revs_grammar.specs.Sentences.{few_levels, IsSentenceOf}

-- The tokens are the sentence of a program with these parameters and this body, with no level above
-- 100, and then `End`.
pub record HasSentence (tokens : List Token) (params : List Param) (body : Tree) : Type 0 where
  pub sentence : List Token
  pub end : Token
  pub cut : tokens ≡ sentence ++ end ∷ []
  pub ended : end.tok ≡ toks.End
  pub spelled : IsSentenceOf few_levels sentence params body

-- The tokens are the sentence within limits of a program with these parameters and this body, and
-- then `End`.
pub record IsProgramOf (tokens : List Token) (params : List Param) (body : Tree) : Type 0 where
  pub sentence : HasSentence tokens params body
  pub inputs : AreParams params

-- The limits are passed first at the parameter whose name stands at this place: its width is 0, or
-- the sum of the widths passes 1,024.
pub record PassesAt (params : List Param) (at : Place) : Type 0 where
  pub before : List Param
  pub named : Param
  pub behind : List Param
  pub cut : params ≡ before ++ named ∷ behind
  pub place : named.name.at ≡ at
  pub fine : AreParams before
  pub passed : ¬ AreParams (before ++ named ∷ [])

-- The tokens are a sentence with no level above 100, whose parameters pass their limits first at
-- the one whose name stands at this place.
pub record IsInputs (tokens : List Token) (at : Place) : Type 0 where
  pub params : List Param
  pub body : Tree
  pub sentence : HasSentence tokens params body
  pub passes : PassesAt params at

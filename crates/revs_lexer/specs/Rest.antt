-- The tokens of a list from one of them on.
use Rattle.std.specs.Prelude.{◌≡◌, ◌≢◌, ℕ, ◌≤◌, List, [], ◌∷◌, length, drop}
use Rattle.revc_base.specs.declared.limits.TheConstants.{MOST_NAME_BYTES}
use Rattle.revc_base.specs.declared.place.Place.{Place}
use Rattle.revs_lexer.specs.declared.packed.Rest.{Rest}
use Rattle.revs_lexer.specs.declared.token.Kind.{Kind}
use Rattle.revs_lexer.specs.declared.token.Tok.TheVariants as toks
use Rattle.revs_lexer.specs.declared.token.Token.{Token}
use Rattle.revs_lexer.specs.Kinds.{tok_of}

-- the tokens that are left
unfoldable pub left : Rest → List Token
left rest = drop rest.from rest.list.now

-- A token of this kind and this place stands first, and the rest behind it.
pub record Begins (ts : List Token) (kind : Kind) (at : Place) (rest : List Token) : Type 0 where
  pub bytes : List ℕ
  pub cut : ts ≡ record { tok = tok_of kind bytes; at = at } ∷ rest

-- The name of these bytes and this place stands first, and the rest behind it.
pub record BeginsName (ts : List Token) (bytes : List ℕ) (at : Place)
    (rest : List Token) : Type 0 where
  pub cut : ts ≡ record { tok = toks.Name bytes; at = at } ∷ rest
  pub some : 1 ≤ length bytes
  pub few : length bytes ≤ MOST_NAME_BYTES

-- No name stands first.
abbrev pub NoName : List Token → Type 0
NoName [] = Unit {0}
NoName (t ∷ ts) = (bytes : List ℕ) → t.tok ≢ toks.Name bytes

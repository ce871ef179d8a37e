-- What taking a piece off the front of a text does.
use Rattle.std.specs.Prelude.{◌≡◌, ◌⊎◌, ◌≤◌, ℕ, List, [], ◌∷◌, ◌++◌, take, drop, not, IsTrue}
use Rattle.std.specs.List.{list_all}
use Rattle.text_places.specs.Bytes.{is_line_feed}
use Rattle.revc_base.specs.declared.limits.TheConstants.{MOST_NAME_BYTES}
use Rattle.revc_base.specs.declared.place.Place.{Place}
use Rattle.revs_lexer.specs.Spelling.{IsWithinLimits}
use Rattle.text_places.specs.Gaps.{IsGap}
use Rattle.revs_lexer.specs.Tokens.{IsLongest}
use Rattle.revs_lexer.specs.inside.Packed.{tokens_of, AreWithin}
use Rattle.revs_lexer.specs.declared.packed.Packed.{Packed}
use Rattle.revs_lexer.specs.declared.token.Kind.{Kind}
use Rattle.revs_lexer.specs.declared.token.Kind.TheVariants as kinds
use Rattle.revs_lexer.specs.declared.token.Tok.{Tok}
use Rattle.revs_lexer.specs.declared.token.Token.{Token}

-- A gap is dropped.
pub record TakesGap (text : List ℕ) (len : ℕ) (old new : List Token) : Type 0 where
  pub gap : IsGap (take len text) (drop len text)
  pub kept : new ≡ old

-- The longest token is put behind those before it.
pub record TakesToken (at : Place) (text : List ℕ) (len : ℕ) (old new : List Token) : Type 0 where
  pub tok : Tok
  pub longest : IsLongest text (take len text) (drop len text) tok
  pub within : IsWithinLimits (take len text) tok
  pub added : new ≡ old ++ record { tok = tok; at = at } ∷ []

-- The first bytes of a text that stands at a place are taken off it.
abbrev pub Takes : Place → List ℕ → ℕ → List Token → List Token → Type 0
Takes at text len old new = TakesGap text len old new ⊎ TakesToken at text len old new

-- No byte is a line feed.
abbrev pub HasNoLineFeed : List ℕ → Type 0
HasNoLineFeed bytes = IsTrue (list_all (λ b. not (is_line_feed b)) bytes)

-- A name of so many bytes begins at this byte of the text, if this kind is one.
abbrev pub StandsSo : ℕ → ℕ → Kind → Type 0
StandsSo start len (kinds.Name n s) = (s ≡ start) × (n ≡ len) × (1 ≤ len) × (len ≤ MOST_NAME_BYTES)
StandsSo start len (kinds.Number n) = Unit {0}
StandsSo start len (kinds.Word w) = Unit {0}
StandsSo start len (kinds.Sign s) = Unit {0}
StandsSo start len kinds.End = Unit {0}

-- So it is in a whole text of which this one is the end, and names go on to stand in it.
pub record TakesIn (whole : List ℕ) (at : Place) (text : List ℕ) (len : ℕ)
    (old new : List Packed) : Type 0 where
  pub takes : Takes at text len (tokens_of whole old) (tokens_of whole new)
  pub within : AreWithin whole old → AreWithin whole new

-- So it is in each text of which this one is the end from here on.
pub record TakesFrom (start : ℕ) (at : Place) (text : List ℕ) (len : ℕ)
    (old new : List Packed) : Type 0 where
  pub in_whole : (whole : List ℕ) → drop start whole ≡ text → TakesIn whole at text len old new

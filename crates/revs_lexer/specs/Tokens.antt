-- The tokens of a program text: a relation between the text and the pieces that it is cut into.
use Rattle.std.specs.Prelude.{◌≡◌, ◌≢◌, ◌⊎◌, ℕ, ◌<◌, ◌≤◌, List, [], ◌∷◌, ◌++◌, length}
use Rattle.revc_base.specs.declared.place.Place.{Place}
use Rattle.text_places.specs.Gaps.{IsGap, HasNoGap}
use Rattle.text_places.specs.Places.{start, place_after}
use Rattle.revs_lexer.specs.Spelling.{Spells, IsWithinLimits}
use Rattle.revs_lexer.specs.declared.token.Tok.{Tok}
use Rattle.revs_lexer.specs.declared.token.Tok.TheVariants as toks
use Rattle.revs_lexer.specs.declared.token.Token.{Token}
use Rattle.revs_lexer.specs.declared.token.LexFault.{LexFault}
use Rattle.revs_lexer.specs.declared.token.LexFault.TheVariants as faults
use Rattle.revc_base.specs.declared.limits.TheConstants.{MOST_NAME_BYTES}
use Rattle.revs_lexer.specs.declared.lexer.TheConstants.{MOST_DIGITS}

-- No front of the text spells a token.
abbrev pub HasNoToken : List ℕ → Type 0
HasNoToken text = (front rest : List ℕ) (tok : Tok) → text ≡ front ++ rest → ¬ Spells front tok

-- The longest token at the front of a text: no longer front of the text spells one.
pub record IsLongest (text piece rest : List ℕ) (tok : Tok) : Type 0 where
  pub cut : text ≡ piece ++ rest
  pub spelled : Spells piece tok
  pub longest : (front behind : List ℕ) (other : Tok)
      → text ≡ front ++ behind → Spells front other → length front ≤ length piece

-- Why a text that stands at a place is refused there.
pub data Refuses : Place → List ℕ → LexFault → Type 0 where
  -- its first byte begins no blank or comment and no token
  bad_byte : {at : Place} {b : ℕ} {bytes : List ℕ}
      → HasNoGap (b ∷ bytes) → HasNoToken (b ∷ bytes) → Refuses at (b ∷ bytes) (faults.BadByte at)
  -- its longest token is a name of more bytes than names have
  long_name : {at : Place} {text : List ℕ} (run rest : List ℕ)
      → IsLongest text run rest (toks.Name run) → MOST_NAME_BYTES < length run
      → Refuses at text (faults.LongName at)
  -- its longest token is a number of more digits than numbers have
  long_number : {at : Place} {text : List ℕ} (run rest : List ℕ) (n : ℕ)
      → IsLongest text run rest (toks.Number n) → MOST_DIGITS < length run
      → Refuses at text (faults.LongNumber at)

-- Where the cutting of a text ends: at its end, or at the first refusal.
pub data Stop : Type 0 where
  whole : Stop
  refused : LexFault → Stop

-- The text that stands at a place is cut from its front into gaps and these tokens, and ends so.
pub data IsCut : Place → List ℕ → List Token → Stop → Type 0 where
  -- nothing is left
  done : {at : Place} → IsCut at [] [] whole
  -- a gap is dropped
  gap : {at : Place} {text : List ℕ} {ts : List Token} {stop : Stop} (piece rest : List ℕ)
      → text ≡ piece ++ rest → IsGap piece rest
      → IsCut (place_after at piece) rest ts stop → IsCut at text ts stop
  -- the longest token is taken
  token : {at : Place} {text : List ℕ} {ts : List Token} {stop : Stop} (piece rest : List ℕ)
      (tok : Tok)
      → IsLongest text piece rest tok → IsWithinLimits piece tok
      → IsCut (place_after at piece) rest ts stop
      → IsCut at text (record { tok = tok; at = at } ∷ ts) stop
  -- what is left is refused
  refusal : {at : Place} {text : List ℕ} (fault : LexFault) → Refuses at text fault
      → IsCut at text [] (refused fault)

-- These are the tokens of the text, without `End`.
abbrev pub IsTokens : List ℕ → List Token → Type 0
IsTokens text ts = IsCut start text ts whole

-- This is the first refusal in the text.
abbrev pub IsRefused : List ℕ → LexFault → Type 0
IsRefused text fault = (ts : List Token) × IsCut start text ts (refused fault)

-- The tokens of a text with `End` behind them, at the place after the last byte.
abbrev pub closed : List ℕ → List Token → List Token
closed text ts = ts ++ record { tok = toks.End; at = place_after start text } ∷ []

-- The last token is `End`, and no other is.
abbrev pub IsEnded : List Token → Type 0
IsEnded [] = ⊥
IsEnded (t ∷ []) = t.tok ≡ toks.End
IsEnded (t ∷ u ∷ ts) = (t.tok ≢ toks.End) × IsEnded (u ∷ ts)

-- A text is cut in one way only, so it has one list of tokens or one first refusal, and not both.
abbrev pub OneOutcome : Type 0
OneOutcome =
    (text : List ℕ) (ts us : List Token) (stop other : Stop)
    → IsCut start text ts stop → IsCut start text us other → (ts ≡ us) × (stop ≡ other)

-- Each text has a list of tokens or a first refusal.
abbrev pub SomeOutcome : Type 0
SomeOutcome =
    (text : List ℕ) → ((ts : List Token) × IsTokens text ts)
    ⊎ ((fault : LexFault) × IsRefused text fault)

-- The tokens of an OpenQASM text: a relation between the text and the words that it is cut into.
use Rattle.std.specs.Prelude.{◌≡◌, ℕ, ◌<◌, ◌≤◌, Bool, true, false, ◌&&◌, ◌⊎◌, List, [], ◌∷◌, ◌++◌, length, codes}
use Rattle.std.specs.List.{list_all}
use Rattle.std.specs.Char.{is_ascii_alphabetic, is_ascii_digit}
use Rattle.list_facts.specs.Lists.{IsAmong}
use Rattle.revc_base.specs.declared.place.Place.{Place}
use Rattle.text_places.specs.Bytes.{is_name_byte}
use Rattle.text_places.specs.Gaps.{IsGap, HasNoGap}
use Rattle.text_places.specs.Places.{start, place_after}

-- ---- words

-- a letter, then letters, digits and `_`
abbrev pub is_identifier : List ℕ → Bool
is_identifier [] = false
is_identifier (b ∷ bs) = is_ascii_alphabetic b && list_all is_name_byte bs

-- digits
abbrev pub is_number : List ℕ → Bool
is_number [] = false
is_number (b ∷ bs) = is_ascii_digit b && list_all is_ascii_digit bs

-- the tokens that are always spelled the same
abbrev pub fixed_words : List (List ℕ)
fixed_words =
    codes "2.0" ∷ codes "\"qelib1.inc\"" ∷ codes ";" ∷ codes "," ∷ codes "[" ∷ codes "]" ∷ []

-- these bytes spell a token
abbrev pub IsWord : List ℕ → Type 0
IsWord word =
    (is_identifier word ≡ true) ⊎ (is_number word ≡ true) ⊎ IsAmong word fixed_words

-- ---- the cutting of a text

-- the longest word at the front of a text: no longer front of the text is one
pub record IsLongest (text word rest : List ℕ) : Type 0 where
  pub cut : text ≡ word ++ rest
  pub spelled : IsWord word
  pub longest : (front behind : List ℕ) → text ≡ front ++ behind → IsWord front
      → length front ≤ length word

-- neither a gap nor a word stands at the front of the text
pub record IsStray (text : List ℕ) : Type 0 where
  pub no_gap : HasNoGap text
  pub no_word : (front rest : List ℕ) → text ≡ front ++ rest → ¬ IsWord front

-- the token at the front of a text: the longest word, or else a byte that begins none
abbrev pub IsNext : (text word rest : List ℕ) → Type 0
IsNext text word rest =
    IsLongest text word rest
    ⊎ ((b : ℕ) × (word ≡ b ∷ []) × (text ≡ b ∷ rest) × IsStray text)

-- The front of the text is cut into gaps, which are dropped, and these tokens, the longest each
-- time.
-- This rest is left.
pub data Cuts : List ℕ → List (List ℕ) → List ℕ → Type 0 where
  nothing_taken : {text : List ℕ} → Cuts text [] text
  gap_dropped : {text last : List ℕ} {tokens : List (List ℕ)} (piece rest : List ℕ)
      → text ≡ piece ++ rest → IsGap piece rest → Cuts rest tokens last → Cuts text tokens last
  token_taken : {text last : List ℕ} {tokens : List (List ℕ)} (word rest : List ℕ)
      → IsNext text word rest → Cuts rest tokens last → Cuts text (word ∷ tokens) last

-- these are the tokens of the text
abbrev pub AreTokens : List ℕ → List (List ℕ) → Type 0
AreTokens text tokens = Cuts text tokens []

-- ---- what is left

-- what is left of a text, and its place
pub record Left : Type 0 where
  pub at : Place
  pub bytes : List ℕ

abbrev pub whole : List ℕ → Left
whole text = record { at = start; bytes = text }

-- these tokens are taken, so the rest is left
pub record Moves (old new : Left) (tokens : List (List ℕ)) : Type 0 where
  pub front : List ℕ
  pub parts : old.bytes ≡ front ++ new.bytes
  pub place : new.at ≡ place_after old.at front
  pub cuts : Cuts old.bytes tokens new.bytes

-- the token at the front; the end of the text counts as a token without bytes
abbrev pub BeginsWith : List ℕ → List ℕ → Type 0
BeginsWith text word = ((word ≡ []) × (text ≡ [])) ⊎ ((rest : List ℕ) × IsNext text word rest)

-- The token at the front, at this place, is taken, so that exactly the bytes behind it are left; at
-- the end nothing is taken.
pub record Takes (old new : Left) (word : List ℕ) (at : Place) : Type 0 where
  pub mid : Left
  pub gaps : Moves old mid []
  pub place : at ≡ mid.at
  pub begins : BeginsWith mid.bytes word
  pub behind : mid.bytes ≡ word ++ new.bytes
  pub moved : new.at ≡ place_after mid.at word
  pub taken : 0 < length word → Moves old new (word ∷ [])
  pub ended : word ≡ [] → new ≡ mid

-- ---- laws

-- a text has at most one list of tokens
abbrev pub TokensAreDetermined : Type 0
TokensAreDetermined =
    (text : List ℕ) (tokens others : List (List ℕ))
    → AreTokens text tokens → AreTokens text others → tokens ≡ others

-- each text has a list of tokens
abbrev pub EachTextHasTokens : Type 0
EachTextHasTokens = (text : List ℕ) → (tokens : List (List ℕ)) × AreTokens text tokens

-- The words and the signs as lists, and what the first in such a list that passes a test says.
use Rattle.std.proofs.Common.{◌≡◌, ◌≢◌, ℕ, ◌≤◌, ◌<◌, Bool, true, false, ◌&&◌, ◌||◌, cond, List, [], ◌∷◌, ◌++◌, length, get_or, drop, Option, Some, None, nat_eq}
use Rattle.std.proofs.Common.{refl, sym, ◌∙◌, subst, ◌⊎◌, inl, inr, ⊎_elim, arith}
use Rattle.std.specs.Prelude.{nat_le, ◌==◌}
use Rattle.std.specs.Str.{bytes_eq}
use Rattle.std.specs.List.{find, starts_with, list_all}
use Rattle.std.specs.Char.{is_ascii_digit}
use Rattle.std.proofs.lemmas.Bool.{false≢true, and_parts, leb-true}
use Rattle.std.proofs.lemmas.Bool.Decides.{Decides-eqb}
use Rattle.std.proofs.lemmas.Option.{none-some}
use Rattle.std.proofs.lemmas.Slice.Eq.{bytes_eq-Decides, starts_is}
use Rattle.text_places.specs.Bytes.{is_letter}
use Rattle.revs_lexer.specs.Spelling.{word_text, sign_text, is_identifier}
use Rattle.revs_lexer.specs.declared.word.Word.{Word}
use Rattle.revs_lexer.specs.declared.word.Word.TheVariants as words
use Rattle.revs_lexer.specs.declared.sign.Sign.{Sign}
use Rattle.revs_lexer.specs.declared.sign.Sign.TheVariants as signs

abbrev pub all_words : List Word
all_words =
    words.Main ∷ words.Let ∷ words.Fun ∷ words.Clean ∷ words.Assert ∷ words.Append ∷ words.Rotate ∷ words.Reg ∷ words.True ∷ words.False ∷ words.Bool ∷
    words.For ∷ words.In ∷ words.Do ∷ words.Revs ∷ []

-- no sign before a longer one
abbrev pub all_signs : List Sign
all_signs =
    signs.Xor ∷ signs.And ∷ signs.Assign ∷ signs.Arrow ∷ signs.DotDot ∷ signs.OpenRound ∷ signs.CloseRound ∷ signs.OpenSquare ∷ signs.CloseSquare ∷
    signs.OpenCurly ∷ signs.CloseCurly ∷ signs.Colon ∷ signs.Semi ∷ signs.Equal ∷ signs.Dot ∷ signs.Plus ∷ signs.Minus ∷ []

-- the first word that is spelled so
abbrev pub word_of : List ℕ → Option Word
word_of bytes = find (λ w. bytes_eq (word_text w) bytes) all_words

-- the first sign that is spelled so
abbrev pub sign_of : List ℕ → Option Sign
sign_of bytes = find (λ s. bytes_eq (sign_text s) bytes) all_signs

-- the first sign that the text begins with
abbrev pub sign_at : List ℕ → Option Sign
sign_at text = find (λ s. starts_with nat_eq text (sign_text s)) all_signs

-- the list holds the element, by recursion
abbrev pub Among : {X : Type 0} → X → List X → Type 0
Among x [] = ⊥
Among x (y ∷ ys) = (x ≡ y) ⊎ Among x ys

-- each word and each sign finds itself, so each stands in its list, and no two are spelled alike
pub word_of-word_text : (w : Word) → word_of (word_text w) ≡ Some w
word_of-word_text words.Main = refl
word_of-word_text _ = refl

pub sign_of-sign_text : (s : Sign) → sign_of (sign_text s) ≡ Some s
sign_of-sign_text signs.OpenRound = refl
sign_of-sign_text _ = refl

-- a word is short, and a name but for being a word
pub word_text_is_short : (w : Word) → nat_le (length (word_text w)) 64 && is_identifier (word_text w) ≡ true
word_text_is_short words.Main = refl
word_text_is_short _ = refl

-- what no sign begins with
abbrev pub begins_no_sign : ℕ → Bool
begins_no_sign b = is_letter b || is_ascii_digit b || nat_le b 32 || b == 47

pub sign_text_begins : (s : Sign) → begins_no_sign (get_or (sign_text s) 0 0) ≡ false
sign_text_begins signs.OpenRound = refl
sign_text_begins _ = refl

pub some_sign_text : (s : Sign) → 0 < length (sign_text s)
some_sign_text signs.OpenRound = omega arith
some_sign_text _ = omega arith

-- which branch was taken
pub chosen : {X : Type 0} (b : Bool) (x y z : X) → cond b x y ≡ z → ((b ≡ true) × (x ≡ z)) ⊎ ((b ≡ false) × (y ≡ z))
chosen true x y z e = inl (refl, e)
chosen false x y z e = inr (refl, e)

-- what is found passes and stands in the list
pub find_passes : {X : Type 0} (p : X → Bool) (xs : List X) (x : X) → find p xs ≡ Some x → (p x ≡ true) × Among x xs
find_passes p [] x e = absurd (none-some x e)
find_passes {X} p (y ∷ ys) x e =
    elim (chosen (p y) (Some y) (find p ys) (Some x) e) [
      | inl w ↦ let same : y ≡ x = cc in (subst (λ (z : X). p z ≡ true) same w.0, inl (sym same))
      | inr w ↦ let later = find_passes p ys x w.1 in (later.0, inr later.1)
    ]

-- what stands in the list fails where nothing is found
pub find_none : {X : Type 0} (p : X → Bool) (xs : List X) (x : X) → find p xs ≡ None → Among x xs → p x ≡ false
find_none p [] x e h = absurd h
find_none {X} p (y ∷ ys) x e h =
    elim (chosen (p y) (Some y) (find p ys) None e) [
      | inl w ↦ absurd (none-some y (sym w.1))
      | inr w ↦ ⊎_elim (λ (same : x ≡ y). subst (λ (z : X). p z ≡ false) (sym same) w.0) (λ (later : Among x ys). find_none p ys x w.1 later) h
    ]

pub word_among : (w : Word) → Among w all_words
word_among w = (find_passes (λ v. bytes_eq (word_text v) (word_text w)) all_words w (word_of-word_text w)).1

pub sign_among : (s : Sign) → Among s all_signs
sign_among s = (find_passes (λ t. bytes_eq (sign_text t) (sign_text s)) all_signs s (sign_of-sign_text s)).1

-- a word that is found is spelled so, and where none is found no word is
pub word_of-some : (bytes : List ℕ) (w : Word) → word_of bytes ≡ Some w → bytes ≡ word_text w
word_of-some bytes w e = sym ((bytes_eq-Decides (word_text w) bytes).0 (find_passes (λ v. bytes_eq (word_text v) bytes) all_words w e).0)

pub word_of-none : (bytes : List ℕ) → word_of bytes ≡ None → (w : Word) → bytes ≢ word_text w
word_of-none bytes e w same =
    false≢true (sym (find_none (λ v. bytes_eq (word_text v) bytes) all_words w e (word_among w)) ∙ (bytes_eq-Decides (word_text w) bytes).1 (sym same))

pub word_of-name : (bytes : List ℕ) → ((w : Word) → bytes ≢ word_text w) → word_of bytes ≡ None
word_of-name bytes apart = by_cases (word_of bytes) (λ w e. apart w (word_of-some bytes w e))
  where
    by_cases : (o : Option Word) → ((w : Word) → o ≡ Some w → ⊥) → o ≡ None
    by_cases None h = refl
    by_cases (Some w) h = absurd (h w refl)

-- no sign of the list stands before a longer one
abbrev is_descending : List Sign → Bool
is_descending [] = true
is_descending (s ∷ ss) = list_all (λ t. nat_le (length (sign_text t)) (length (sign_text s))) ss && is_descending ss

list_all_at : {X : Type 0} (p : X → Bool) (xs : List X) (x : X) → list_all p xs ≡ true → Among x xs → p x ≡ true
list_all_at p [] x all h = absurd h
list_all_at {X} p (y ∷ ys) x all h =
    let parts = and_parts (p y) (list_all p ys) all in
    ⊎_elim (λ (same : x ≡ y). subst (λ (z : X). p z ≡ true) (sym same) parts.0) (λ (later : Among x ys). list_all_at p ys x parts.1 later) h

find_longest : (p : Sign → Bool) (xs : List Sign) (s other : Sign) → is_descending xs ≡ true → find p xs ≡ Some s → Among other xs → p other ≡ true
    → length (sign_text other) ≤ length (sign_text s)
find_longest p [] s other falls e h passes = absurd h
find_longest p (y ∷ ys) s other falls e h passes =
    let parts = and_parts (list_all (λ t. nat_le (length (sign_text t)) (length (sign_text y))) ys) (is_descending ys) falls in
    elim (chosen (p y) (Some y) (find p ys) (Some s) e) [
      | inl w ↦
          let same : y ≡ s = cc in
          subst (λ (z : Sign). length (sign_text other) ≤ length (sign_text z)) same
          (⊎_elim
          (λ (first : other ≡ y). subst (λ (z : Sign). length (sign_text other) ≤ length (sign_text z)) first (omega arith))
          (λ (later : Among other ys). leb-true _ _ (list_all_at (λ t. nat_le (length (sign_text t)) (length (sign_text y))) ys other parts.0 later))
          h)
      | inr w ↦
          ⊎_elim
          (λ (first : other ≡ y). absurd (false≢true (sym w.0 ∙ subst (λ (z : Sign). p z ≡ true) first passes)))
          (λ (later : Among other ys). find_longest p ys s other parts.1 w.1 later passes)
          h
    ]

-- The sign that is found stands at the front of the text, and no longer one does; where none is found, none does.
pub sign_at-some : (text : List ℕ) (s : Sign) → sign_at text ≡ Some s → text ≡ sign_text s ++ drop (length (sign_text s)) text
sign_at-some text s e = (starts_is Decides-eqb text (sign_text s) _ refl).0 (find_passes (λ t. starts_with nat_eq text (sign_text t)) all_signs s e).0

pub sign_at-longest : (text : List ℕ) (s other : Sign) (rest : List ℕ) → sign_at text ≡ Some s → text ≡ sign_text other ++ rest
    → length (sign_text other) ≤ length (sign_text s)
sign_at-longest text s other rest e begins =
    find_longest (λ t. starts_with nat_eq text (sign_text t)) all_signs s other refl e (sign_among other)
    ((starts_is Decides-eqb text (sign_text other) _ refl).1 rest begins)

pub sign_at-none : (text : List ℕ) → sign_at text ≡ None → (s : Sign) (rest : List ℕ) → text ≢ sign_text s ++ rest
sign_at-none text e s rest begins =
    false≢true (sym (find_none (λ t. starts_with nat_eq text (sign_text t)) all_signs s e (sign_among s))
    ∙ (starts_is Decides-eqb text (sign_text s) _ refl).1 rest begins)

-- Names with numbers, and bits by their places.
use Rattle.std.proofs.Common.{◌≡◌, ◌≢◌, ◌⊎◌, ℕ, zero, suc, ◌+◌, ◌<◌, ◌≤◌, Bool, true, false, List, []}
use Rattle.std.proofs.Common.{◌∷◌, ◌++◌, length, drop, Some, cond, refl, ap, sym, ◌∙◌, arith, inl, inr}
use Rattle.std.specs.Prelude.{slice_get, bytes_eq, decimal}
use Rattle.std.specs.Char.{is_ascii_digit}
use Rattle.std.specs.List.{list_all}
use Rattle.std.proofs.lemmas.Bool.{false_from_ne_true, false≢true}
use Rattle.std.proofs.lemmas.Fmt.{decimal_digit, decimal_injective, decimal_is_IsNumeral}
use Rattle.std.proofs.lemmas.Slice.Eq.{bytes_eq-Decides}
use Rattle.std.proofs.lemmas.Option.{get_or_from_slice_get}
use Rattle.list_facts.specs.Bits.{bit_of}
use Rattle.text_places.proofs.DigitLemmas.{all_digits}
use Rattle.built_texts.specs.Meanings.{Meaning, Scope, named, meaning_of}
use Rattle.built_texts.proofs.PlaceLemmas.{lettered}

-- ---- digits

pub zero_digit : decimal 0 ≡ 48 ∷ []
zero_digit = decimal_digit 0 (omega arith)

pub one_digit : decimal 1 ≡ 49 ∷ []
one_digit = decimal_digit 1 (omega arith)

-- ---- bytes of names

pub same_bytes : (bs : List ℕ) → bytes_eq bs bs ≡ true
same_bytes bs = (bytes_eq-Decides bs bs).1 refl

other_bytes : (bs cs : List ℕ) → bs ≢ cs → bytes_eq bs cs ≡ false
other_bytes bs cs other = false_from_ne_true (bytes_eq bs cs) (λ same. other ((bytes_eq-Decides bs cs).0 same))

-- a letter is no digit
pub no_decimal : (bs : List ℕ) (i : ℕ) → i ≤ 9999 → list_all is_ascii_digit bs ≡ false → bytes_eq bs (decimal i) ≡ false
no_decimal bs i few other =
    let digits = all_digits (decimal i) (decimal_is_IsNumeral i (omega arith)).0.1 in
    other_bytes bs (decimal i) (λ same. false≢true (sym other ∙ ap (list_all is_ascii_digit) same ∙ digits))

-- ---- what is left of a register

pub left_get : (bs : List Bool) (i : ℕ) (x : Bool) (xs : List Bool) → drop i bs ≡ x ∷ xs → slice_get bs i ≡ Some x
left_get [] zero x xs is = cc
left_get [] (suc i) x xs is = cc
left_get (b ∷ bs) zero x xs is = cc
left_get (b ∷ bs) (suc i) x xs is = left_get bs i x xs is

pub left_bit : (bs : List Bool) (i : ℕ) (x : Bool) (xs : List Bool) → drop i bs ≡ x ∷ xs → bit_of bs i ≡ x
left_bit bs i x xs is = get_or_from_slice_get bs i x false (left_get bs i x xs is)

pub left_drop : (bs : List Bool) (i : ℕ) (x : Bool) (xs : List Bool) → drop i bs ≡ x ∷ xs → drop (i + 1) bs ≡ xs
left_drop [] zero x xs is = cc
left_drop [] (suc i) x xs is = cc
left_drop (b ∷ bs) zero x xs is = cc
left_drop (b ∷ bs) (suc i) x xs is =
    let so : suc i + 1 ≡ suc (i + 1) = omega arith in ap (λ k. drop k (b ∷ bs)) so ∙ left_drop bs i x xs is

-- a bit among those that were made, or the one behind them
pub got_more : (made : List Bool) (s : Bool) (k : ℕ) (x : Bool) → slice_get (made ++ s ∷ []) k ≡ Some x
    → (slice_get made k ≡ Some x) ⊎ ((k ≡ length made) × (s ≡ x))
got_more [] s zero x is = inr (refl, cc)
got_more [] s (suc k) x is = cc
got_more (m ∷ made) s zero x is = inl is
got_more (m ∷ made) s (suc k) x is =
    elim (got_more made s k x is) [ inl there ↦ inl there | inr last ↦ inr (ap suc last.0, last.1) ]

-- ---- names in scope

-- a name past a nearer one
pub past : {m : Meaning} (text name : List ℕ) (n : Meaning) (sc : Scope) → bytes_eq text name ≡ false → meaning_of text sc ≡ Some m
    → meaning_of text (named name n sc) ≡ Some m
past text name n sc other is = ap (λ t. cond t (Some n) (meaning_of text sc)) other ∙ is

pub nearest : (text : List ℕ) (n : Meaning) (sc : Scope) → meaning_of text (named text n sc) ≡ Some n
nearest text n sc = ap (λ t. cond t (Some n) (meaning_of text sc)) (same_bytes text)

pub other_lettered : (letter k i : ℕ) → k < i → i ≤ 9999 → bytes_eq (lettered letter k) (lettered letter i) ≡ false
other_lettered letter k i less few =
    other_bytes (lettered letter k) (lettered letter i) (λ same.
    let digits : decimal k ≡ decimal i = cc in
    let is : k ≡ i = decimal_injective k i (omega arith) (omega arith) digits in let none : ⊥ = omega arith in none)

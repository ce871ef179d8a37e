-- The token at the front of a text, as the reader finds it.
use Rattle.std.proofs.Common.{◌≡◌, ℕ, ◌<◌, ◌≤◌, eqb, Bool, true, false, ◌||◌, ◌⊎◌, inl, inr, List, [], ◌∷◌, ◌++◌, length, take, drop, get_or, nat_eq, refl, sym}
use Rattle.std.proofs.Common.{ap, ◌∙◌, subst, arith}
use Rattle.std.specs.Prelude.{codes}
use Rattle.std.specs.List.{AllByRecursion, list_all, prefix_len, starts_with}
use Rattle.std.specs.Char.{is_ascii_alphabetic, is_ascii_digit}
use Rattle.std.proofs.lemmas.Bool.{false≢true, and_parts, and_from, cases_Bool, eqb-true}
use Rattle.std.proofs.lemmas.Bool.Decides.{Decides-eqb}
use Rattle.std.proofs.lemmas.List.{take-append-drop, take_at, length-take-le}
use Rattle.std.proofs.lemmas.List.Sums.{prefix_len-le-length}
use Rattle.std.proofs.lemmas.Slice.Eq.{starts_is}
use Rattle.list_facts.specs.Lists.{IsAmong}
use Rattle.list_facts.proofs.AmongLemmas.{all_among}
use Rattle.text_places.specs.Bytes.{is_name_byte}
use Rattle.text_places.specs.Gaps.{HasNoGap}
use Rattle.qasm_lexer.specs.Tokens.{fixed_words, IsWord, IsLongest, IsNext}
use Rattle.text_places.proofs.RunLemmas.{front_in_run, run_of, prefix_len-yes}
use Rattle.qasm_lexer.proofs.TokenLemmas.{fixed_digit, word_by_letter, letter_goes_on, letter_is_no_digit, longest_sign}

-- the longest word is the run of bytes that pass a test, where each word that begins so passes it
longest_run : (p : ℕ → Bool) (text : List ℕ) → ((b : ℕ) (bs behind : List ℕ) → text ≡ (b ∷ bs) ++ behind → IsWord (b ∷ bs) → list_all p (b ∷ bs) ≡ true)
    → IsWord (take (prefix_len p text) text) → IsLongest text (take (prefix_len p text) text) (drop (prefix_len p text) text)
longest_run p text passes spelled = record {
  cut = sym (take-append-drop (prefix_len p text) text);
  spelled = spelled;
  longest = λ front behind e h. within front behind e h;
}
  where
    within : (front behind : List ℕ) → text ≡ front ++ behind → IsWord front → length front ≤ length (take (prefix_len p text) text)
    within [] behind e h = omega arith
    within (b ∷ bs) behind e h =
        let inside = front_in_run p (b ∷ bs) behind (passes b bs behind e h) in
        let same : prefix_len p text ≡ prefix_len p ((b ∷ bs) ++ behind) = ap (prefix_len p) e in
        let long = length-take-le (prefix_len p text) text (prefix_len-le-length p text) in
        omega arith

begins_same : (text : List ℕ) (b : ℕ) (bs behind : List ℕ) → text ≡ (b ∷ bs) ++ behind → get_or text 0 0 ≡ b
begins_same text b bs behind e = ap (λ (t : List ℕ). get_or t 0 0) e

-- ---- names

name_here : (b : ℕ) (bs : List ℕ) → is_ascii_alphabetic b ≡ true → IsWord (take (prefix_len is_name_byte (b ∷ bs)) (b ∷ bs))
name_here b bs letter =
    let run = run_of is_name_byte bs in
    subst (λ (k : ℕ). IsWord (take k (b ∷ bs))) (sym (prefix_len-yes is_name_byte b bs (letter_goes_on b letter)))
    (inl (and_from (is_ascii_alphabetic b) (list_all is_name_byte (take (prefix_len is_name_byte bs) bs)) letter run.passes))

pub name_at_front : (text : List ℕ) (n : ℕ) → 0 < length text → is_ascii_alphabetic (get_or text 0 0) ≡ true → n ≡ prefix_len is_name_byte text
    → IsNext text (take n text) (drop n text)
name_at_front [] n some letter same = absurd (omega arith)
name_at_front (b ∷ bs) n some letter same =
    subst (λ (k : ℕ). IsNext (b ∷ bs) (take k (b ∷ bs)) (drop k (b ∷ bs))) (sym same)
    (inl (longest_run is_name_byte (b ∷ bs)
    (λ c cs behind e h. word_by_letter c cs h (sym (ap is_ascii_alphabetic (begins_same (b ∷ bs) c cs behind e)) ∙ letter)) (name_here b bs letter)))

-- ---- numbers

number_here : (b : ℕ) (bs : List ℕ) → is_ascii_digit b ≡ true → IsWord (take (prefix_len is_ascii_digit (b ∷ bs)) (b ∷ bs))
number_here b bs digit =
    let run = run_of is_ascii_digit bs in
    subst (λ (k : ℕ). IsWord (take k (b ∷ bs))) (sym (prefix_len-yes is_ascii_digit b bs digit))
    (inr (inl (and_from (is_ascii_digit b) (list_all is_ascii_digit (take (prefix_len is_ascii_digit bs) bs)) digit run.passes)))

-- a word that begins with a digit has digits alone, or is `2.0`
digit_word : (b : ℕ) (bs : List ℕ) → IsWord (b ∷ bs) → is_ascii_digit b ≡ true → (list_all is_ascii_digit (b ∷ bs) ≡ true) ⊎ ((b ∷ bs) ≡ codes "2.0")
digit_word b bs (inl e) digit =
    absurd (false≢true (sym (letter_is_no_digit b (and_parts (is_ascii_alphabetic b) (list_all is_name_byte bs) e).0) ∙ digit))
digit_word b bs (inr (inl e)) digit = inl e
digit_word b bs (inr (inr fixed)) digit = inr (fixed_digit (b ∷ bs) fixed digit)

begins_with : (text word behind : List ℕ) → starts_with nat_eq text word ≡ false → text ≡ word ++ behind → ⊥
begins_with text word behind other e = false≢true (sym other ∙ (starts_is Decides-eqb text word (starts_with nat_eq text word) refl).1 behind e)

pub number_at_front : (text : List ℕ) (n : ℕ) → 0 < length text → is_ascii_digit (get_or text 0 0) ≡ true → starts_with nat_eq text (codes "2.0") ≡ false
    → n ≡ prefix_len is_ascii_digit text → IsNext text (take n text) (drop n text)
number_at_front [] n some digit other same = absurd (omega arith)
number_at_front (b ∷ bs) n some digit other same =
    subst (λ (k : ℕ). IsNext (b ∷ bs) (take k (b ∷ bs)) (drop k (b ∷ bs))) (sym same)
    (inl (longest_run is_ascii_digit (b ∷ bs) (λ c cs behind e h. passes c cs behind e
    (digit_word c cs h (sym (ap is_ascii_digit (begins_same (b ∷ bs) c cs behind e)) ∙ digit))) (number_here b bs digit)))
  where
    passes : (c : ℕ) (cs behind : List ℕ) → (b ∷ bs) ≡ (c ∷ cs) ++ behind → (list_all is_ascii_digit (c ∷ cs) ≡ true) ⊎ ((c ∷ cs) ≡ codes "2.0")
        → list_all is_ascii_digit (c ∷ cs) ≡ true
    passes c cs behind e (inl all) = all
    passes c cs behind e (inr version) = absurd (begins_with (b ∷ bs) (codes "2.0") behind other (e ∙ ap (λ (w : List ℕ). w ++ behind) version))

-- `2.0`
version_here : (rest : List ℕ) → IsNext (codes "2.0" ++ rest) (codes "2.0") rest
version_here rest = inl (record {
  cut = refl;
  spelled = inr (inr (inl refl));
  longest = λ front behind e h. within front behind e h;
})
  where
    by_kind : (b : ℕ) (bs behind : List ℕ) → codes "2.0" ++ rest ≡ (b ∷ bs) ++ behind
        → (list_all is_ascii_digit (b ∷ bs) ≡ true) ⊎ ((b ∷ bs) ≡ codes "2.0") → length (b ∷ bs) ≤ 3
    by_kind b bs behind e (inl all) =
        let inside = front_in_run is_ascii_digit (b ∷ bs) behind all in
        let same : prefix_len is_ascii_digit ((b ∷ bs) ++ behind) ≡ 1 = sym (ap (prefix_len is_ascii_digit) e) in
        omega arith
    by_kind b bs behind e (inr version) = let long = ap length version in omega arith

    within : (front behind : List ℕ) → codes "2.0" ++ rest ≡ front ++ behind → IsWord front → length front ≤ 3
    within [] behind e h = omega arith
    within (b ∷ bs) behind e h =
        by_kind b bs behind e (digit_word b bs h (sym (ap is_ascii_digit (begins_same (codes "2.0" ++ rest) b bs behind e))))

-- the front of a text that begins with a word
front_is : (text word : List ℕ) (P : List ℕ → List ℕ → List ℕ → Type 0) → true ≡ starts_with nat_eq text word
    → ((rest : List ℕ) → P (word ++ rest) word rest) → P text (take (length word) text) (drop (length word) text)
front_is text word P begins here =
    let whole : text ≡ word ++ drop (length word) text = (starts_is Decides-eqb text word true begins).0 refl in
    let front : take (length word) text ≡ word = ap (take (length word)) whole ∙ take_at word (drop (length word) text) (length word) refl in
    subst (λ (t : List ℕ). P text t (drop (length word) text)) (sym front)
    (subst (λ (t : List ℕ). P t word (drop (length word) text)) (sym whole) (here (drop (length word) text)))

pub version_at_front : (text : List ℕ) → true ≡ starts_with nat_eq text (codes "2.0") → IsNext text (take 3 text) (drop 3 text)
version_at_front text begins = front_is text (codes "2.0") IsNext begins version_here

pub library_at_front : (text : List ℕ) → true ≡ starts_with nat_eq text (codes "\"qelib1.inc\"") → IsNext text (take 12 text) (drop 12 text)
library_at_front text begins =
    front_is text (codes "\"qelib1.inc\"") IsNext begins (λ rest. inl (longest_sign 34 (codes "qelib1.inc\"") rest (inr (inl refl)) refl refl))

-- ---- signs, and bytes that begin no token

or_cases : (x y : Bool) → (x || y) ≡ true → (x ≡ true) ⊎ (y ≡ true)
or_cases true y e = inl refl
or_cases false y e = inr e

abbrev is_sign : ℕ → Bool
is_sign b = eqb b 59 || (eqb b 44 || (eqb b 91 || eqb b 93))

sign_word : (b : ℕ) → is_sign b ≡ true → IsAmong (b ∷ []) fixed_words
sign_word b e = elim (or_cases (eqb b 59) (eqb b 44 || (eqb b 91 || eqb b 93)) e) [
  | inl same ↦ inr (inr (inl (ap (λ (c : ℕ). c ∷ []) (eqb-true b 59 same))))
  | inr more ↦ elim (or_cases (eqb b 44) (eqb b 91 || eqb b 93) more) [
    | inl same ↦ inr (inr (inr (inl (ap (λ (c : ℕ). c ∷ []) (eqb-true b 44 same)))))
    | inr most ↦ elim (or_cases (eqb b 91) (eqb b 93) most) [
      | inl same ↦ inr (inr (inr (inr (inl (ap (λ (c : ℕ). c ∷ []) (eqb-true b 91 same))))))
      | inr same ↦ inr (inr (inr (inr (inr (inl (ap (λ (c : ℕ). c ∷ []) (eqb-true b 93 same)))))))
    ]
  ]
]

-- a byte that begins none of the words that are always spelled the same
no_fixed : (b : ℕ) (bs behind text : List ℕ) → text ≡ (b ∷ bs) ++ behind → IsAmong (b ∷ bs) fixed_words → is_sign b ≡ false → is_ascii_digit b ≡ false
    → starts_with nat_eq text (codes "\"qelib1.inc\"") ≡ false → ⊥
no_fixed b bs behind text cut (inl e) sign digit other = false≢true (sym digit ∙ ap (λ (w : List ℕ). is_ascii_digit (get_or w 0 0)) e)
no_fixed b bs behind text cut (inr (inl e)) sign digit other =
    begins_with text (codes "\"qelib1.inc\"") behind other (cut ∙ ap (λ (w : List ℕ). w ++ behind) e)
no_fixed b bs behind text cut (inr (inr (inl e))) sign digit other = false≢true (sym sign ∙ ap (λ (w : List ℕ). is_sign (get_or w 0 0)) e)
no_fixed b bs behind text cut (inr (inr (inr (inl e)))) sign digit other = false≢true (sym sign ∙ ap (λ (w : List ℕ). is_sign (get_or w 0 0)) e)
no_fixed b bs behind text cut (inr (inr (inr (inr (inl e))))) sign digit other = false≢true (sym sign ∙ ap (λ (w : List ℕ). is_sign (get_or w 0 0)) e)
no_fixed b bs behind text cut (inr (inr (inr (inr (inr (inl e)))))) sign digit other = false≢true (sym sign ∙ ap (λ (w : List ℕ). is_sign (get_or w 0 0)) e)
no_fixed b bs behind text cut (inr (inr (inr (inr (inr (inr none)))))) sign digit other = none

pub empty_is_no_word : IsWord [] → ⊥
empty_is_no_word (inl e) = false≢true e
empty_is_no_word (inr (inl e)) = false≢true e
empty_is_no_word (inr (inr fixed)) =
    let all : AllByRecursion (λ (w : List ℕ). 1 ≤ length w) fixed_words =
    (omega arith, (omega arith, (omega arith, (omega arith, (omega arith, (omega arith, tt)))))) in
    let some : 1 ≤ length {A = ℕ} [] = all_among (λ (w : List ℕ). 1 ≤ length w) fixed_words all [] fixed in
    absurd (omega arith)

no_word_here : (text front behind : List ℕ) → text ≡ front ++ behind → is_ascii_alphabetic (get_or text 0 0) ≡ false → is_ascii_digit (get_or text 0 0) ≡ false
    → is_sign (get_or text 0 0) ≡ false → starts_with nat_eq text (codes "\"qelib1.inc\"") ≡ false → ¬ IsWord front
no_word_here text [] behind cut letter digit sign other h = empty_is_no_word h
no_word_here text (b ∷ bs) behind cut letter digit sign other (inl e) =
    false≢true (sym letter ∙ ap is_ascii_alphabetic (begins_same text b bs behind cut) ∙ (and_parts (is_ascii_alphabetic b) (list_all is_name_byte bs) e).0)
no_word_here text (b ∷ bs) behind cut letter digit sign other (inr (inl e)) =
    false≢true (sym digit ∙ ap is_ascii_digit (begins_same text b bs behind cut) ∙ (and_parts (is_ascii_digit b) (list_all is_ascii_digit bs) e).0)
no_word_here text (b ∷ bs) behind cut letter digit sign other (inr (inr fixed)) =
    let same = begins_same text b bs behind cut in
    no_fixed b bs behind text cut fixed (sym (ap is_sign same) ∙ sign) (sym (ap is_ascii_digit same) ∙ digit) other

pub other_at_front : (text : List ℕ) → 0 < length text → HasNoGap text → is_ascii_alphabetic (get_or text 0 0) ≡ false
    → is_ascii_digit (get_or text 0 0) ≡ false → starts_with nat_eq text (codes "\"qelib1.inc\"") ≡ false → IsNext text (take 1 text) (drop 1 text)
other_at_front [] some no_gap letter digit other = absurd (omega arith)
other_at_front (b ∷ bs) some no_gap letter digit other = elim (cases_Bool (is_sign b)) [
  | inl sign ↦ inl (longest_sign b [] bs (sign_word b sign) letter digit)
  | inr no_sign ↦ inr (
    b,
    refl,
    refl,
    record {
      no_gap = no_gap;
      no_word = λ front rest cut. no_word_here (b ∷ bs) front rest cut letter digit no_sign other;
    },
  )
]

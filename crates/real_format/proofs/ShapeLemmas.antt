-- What the word of a gate says.
use Rattle.std.proofs.Common.{◌≡◌, ℕ, zero, suc, ◌+◌, ◌-◌, ◌<◌, ◌≤◌, ◌^◌, ◌⊎◌, inl, inr, Bool, true, false, if◌then◌else◌, eqb, List, [], ◌∷◌, length, get_or}
use Rattle.std.proofs.Common.{drop, min, Option, Some, None, refl, sym, ap, ◌∙◌, subst, arith}
use Rattle.std.specs.Prelude.{nat_le}
use Rattle.std.specs.Option.{option_map}
use Rattle.std.proofs.lemmas.Int.Digits.{digits_value-lt}
use Rattle.std.proofs.lemmas.Bool.{eqb-true}
use Rattle.std.proofs.lemmas.Bool.Decides.{nat_tests}
use Rattle.real_format.specs.declared.gate.Shape.{Shape}
use Rattle.real_format.specs.Header.{IsNumber}
use Rattle.real_format.specs.Real.{IsGateWord}
use Rattle.real_format.specs.inside.Reading.{number_of, shape_of, shape_of_digits, shape_of_count, targets_in}
use Rattle.real_format.proofs.HeaderLemmas.{number_is, is_number}

abbrev pub shape : ℕ → ℕ → Shape
shape controls targets = record { controls = controls; targets = targets }

-- five digits write no number above 99,999
few_digits : (digits : List ℕ) (n : ℕ) → length digits ≤ 5 → IsNumber digits n → n < 100000
few_digits digits n few is =
    let below = digits_value-lt 10 digits is.digits.1 in
    let value = is.value in
    by (length digits) few (subst (λ k. k < 10 ^ length digits) value below)
  where
    by : (k : ℕ) → k ≤ 5 → n < 10 ^ k → n < 100000
    by zero h p = omega arith
    by (suc zero) h p = omega arith
    by (suc (suc zero)) h p = omega arith
    by (suc (suc (suc zero))) h p = omega arith
    by (suc (suc (suc (suc zero)))) h p = omega arith
    by (suc (suc (suc (suc (suc zero))))) h p = omega arith
    by (suc (suc (suc (suc (suc (suc k)))))) h p = absurd (omega arith)

capped : (digits : List ℕ) (count : ℕ) → length digits ≤ 5 → Some count ≡ option_map (λ n. min n (99999 + 1)) (number_of digits) → number_of digits ≡ Some count
capped digits count few e = by (number_of digits) refl e
  where
    by : (r : Option ℕ) → number_of digits ≡ r → Some count ≡ option_map (λ n. min n (99999 + 1)) r → r ≡ Some count
    by None p f = absurd (cc)
    by (Some n) p f =
        let below = few_digits digits n few (number_is digits n p) in
        let same : count ≡ min n (99999 + 1) = cc in
        ap Some (omega arith)

pub shape_is : (word digits : List ℕ) (targets count : ℕ) → (length word ≡ 0 → ⊥) → Some targets ≡ targets_in (get_or word 0 0) → digits ≡ drop 1 word
    → length digits ≤ 5 → Some count ≡ option_map (λ n. min n (99999 + 1)) (number_of digits) → targets ≤ count
    → Some (shape (count - targets) targets) ≡ shape_of word
shape_is [] digits targets count some letter is few counted enough = absurd (some refl)
shape_is (b ∷ bs) digits targets count some letter is few counted enough =
    let number = capped digits count few counted in
    let short : nat_le (length bs) 5 ≡ true = (let h : length bs ≤ 5 = subst (λ ds. length ds ≤ 5) is few in grind (arith, nat_tests)) in
    let room : nat_le targets count ≡ true = grind (arith, nat_tests) in
    sym (ap (λ t. shape_of_digits t bs) (sym letter)
    ∙ ap (λ t. if t then shape_of_count targets (number_of bs) else None) short
    ∙ ap (shape_of_count targets) (ap number_of (sym is) ∙ number)
    ∙ ap (λ t. if t then Some (shape (count - targets) targets) else None) room)

-- ---- the word and its rule

letter_is : (letter targets : ℕ) → targets_in letter ≡ Some targets → ((letter ≡ 116) × (targets ≡ 1)) ⊎ ((letter ≡ 102) × (targets ≡ 2))
letter_is letter targets e = by (eqb letter 116) (eqb letter 102) refl refl e
  where
    by : (s t : Bool) → eqb letter 116 ≡ s → eqb letter 102 ≡ t → (if s then Some 1 else (if t then Some 2 else None)) ≡ Some targets
        → ((letter ≡ 116) × (targets ≡ 1)) ⊎ ((letter ≡ 102) × (targets ≡ 2))
    by true t p q f = inl (eqb-true letter 116 p, (let same : 1 ≡ targets = cc in sym same))
    by false true p q f = inr (eqb-true letter 102 q, (let same : 2 ≡ targets = cc in sym same))
    by false false p q f = absurd (cc)

is_letter : (letter targets : ℕ) → ((letter ≡ 116) × (targets ≡ 1)) ⊎ ((letter ≡ 102) × (targets ≡ 2)) → targets_in letter ≡ Some targets
is_letter letter targets (inl t) = ap targets_in t.0 ∙ ap Some (sym t.1)
is_letter letter targets (inr f) = ap targets_in f.0 ∙ ap Some (sym f.1)

pub gate_word_is : (word : List ℕ) (s : Shape) → shape_of word ≡ Some s → IsGateWord word s.controls s.targets
gate_word_is [] s e = absurd (cc)
gate_word_is (b ∷ bs) s e = by_letter (targets_in b) refl e
  where
    by_count : (targets : ℕ) (r : Option ℕ) → targets_in b ≡ Some targets → nat_le (length bs) 5 ≡ true → number_of bs ≡ r → shape_of_count targets r ≡ Some s
        → IsGateWord (b ∷ bs) s.controls s.targets
    by_count targets None letter few number f = absurd (cc)
    by_count targets (Some n) letter few number f =
        let short : length bs ≤ 5 = grind (arith, nat_tests, few) in
        by_room (nat_le targets n) refl f short
      where
        by_room : (t : Bool) → nat_le targets n ≡ t → (if t then Some (shape (n - targets) targets) else None) ≡ Some s → length bs ≤ 5
            → IsGateWord (b ∷ bs) s.controls s.targets
        by_room false room g short = absurd (cc)
        by_room true room g short =
            let same : shape (n - targets) targets ≡ s = cc in
            let enough : targets ≤ n = grind (arith, nat_tests, room) in
            let whole : n ≡ n - targets + targets = omega arith in
            subst (λ (k : Shape). IsGateWord (b ∷ bs) k.controls k.targets) same (record {
              letter = b;
              number = bs;
              spelled = refl;
              known = letter_is b targets letter;
              counted = subst (IsNumber bs) whole (number_is bs n number);
              few_digits = short;
            })

    by_digits : (targets : ℕ) (t : Bool) → targets_in b ≡ Some targets → nat_le (length bs) 5 ≡ t
        → (if t then shape_of_count targets (number_of bs) else None) ≡ Some s → IsGateWord (b ∷ bs) s.controls s.targets
    by_digits targets false letter few f = absurd (cc)
    by_digits targets true letter few f = by_count targets (number_of bs) letter few refl f

    by_letter : (r : Option ℕ) → targets_in b ≡ r → shape_of_digits r bs ≡ Some s → IsGateWord (b ∷ bs) s.controls s.targets
    by_letter None letter f = absurd (cc)
    by_letter (Some targets) letter f = by_digits targets (nat_le (length bs) 5) letter refl f

pub is_gate_word : (word : List ℕ) (controls targets : ℕ) → IsGateWord word controls targets → shape_of word ≡ Some (shape controls targets)
is_gate_word word controls targets is =
    let few = is.few_digits in
    let short : nat_le (length is.number) 5 ≡ true = grind (arith, nat_tests) in
    let room : nat_le targets (controls + targets) ≡ true = grind (arith, nat_tests) in
    let back : controls + targets - targets ≡ controls = omega arith in
    ap shape_of is.spelled
    ∙ ap (λ t. shape_of_digits t is.number) (is_letter is.letter targets is.known)
    ∙ ap (λ t. if t then shape_of_count targets (number_of is.number) else None) short
    ∙ ap (shape_of_count targets) (is_number is.number (controls + targets) is.counted)
    ∙ ap (λ t. if t then Some (shape (controls + targets - targets) targets) else None) room
    ∙ ap (λ k. Some (shape k targets)) back

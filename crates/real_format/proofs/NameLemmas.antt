-- The names of a written file's lines: by their roles, or by their numbers.
use Rattle.std.proofs.Common.{◌≡◌, ℕ, zero, suc, ◌+◌, ◌<◌, ◌≤◌, ◌^◌, ◌%◌, ltb, eqb, true, false, cond, List, [], ◌∷◌, ◌++◌, length, map, refl, sym, ap, ◌∙◌}
use Rattle.std.proofs.Common.{arith, inl, inr, Some, slice_get}
use Rattle.std.specs.List.{AllByRecursion, list_all, range_with_len}
use Rattle.std.specs.Fmt.{decimal}
use Rattle.std.proofs.lemmas.Fmt.{decimal_by_steps, decimal_injective, decimal_nonempty, length-decimal-le}
use Rattle.std.proofs.lemmas.List.{length-map}
use Rattle.std.proofs.lemmas.List.FromFn.{length-map-range_with_len}
use Rattle.std.proofs.lemmas.List.Folds.{list_all-append}
use Rattle.std.proofs.lemmas.Bool.{cases_lt, lt-ltb, ne_eqb}
use Rattle.std.proofs.lemmas.Bool.Decides.{nat_tests}
use Rattle.list_facts.proofs.AllLemmas.{AllByRecursion-range}
use Rattle.list_facts.specs.Lists.{AreApart}
use Rattle.revc_io.proofs.PieceLemmas.{mapped_at}
use Rattle.real_format.specs.Words.{is_word_byte, is_comment}
use Rattle.real_format.specs.Header.{IsName, AreNames}
use Rattle.circuit_plans.specs.declared.roles.Roles.{Roles}
use Rattle.circuit_plans.specs.declared.roles.Role.{Role}
use Rattle.circuit_plans.specs.declared.roles.Role.TheVariants.{Input, Output, Work, Borrowed}
use Rattle.circuit_plans.specs.Plans.{lines_in, first_of, role_at, number_at}
use Rattle.real_format.specs.Written.{names_by}
use Rattle.real_format.specs.Compiled.{letter_of, name_of_line}
use Rattle.real_format.specs.Converted.{numbered_name}
use Rattle.real_format.proofs.ReadingLemmas.{true-and, IsWord}

-- ---- lists of the values of a function at a range

pub slice_get-range : {X : Type 0} (f : ℕ → X) (a n i : ℕ) → i < n → slice_get (map f (range_with_len a n)) i ≡ Some (f (a + i))
slice_get-range f a zero i h = absurd (omega arith)
slice_get-range f a (suc n) zero h = ap (λ k. Some (f k)) (omega arith)
slice_get-range f a (suc n) (suc i) h =
    slice_get-range f (a + 1) n i (omega arith) ∙ ap (λ k. Some (f k)) (omega arith)

-- ---- digits

is_word_byte-above : (b : ℕ) → 33 ≤ b → is_word_byte b ≡ true
is_word_byte-above b h = rw (ne_eqb b 32 (λ e. omega arith), ne_eqb b 9 (λ e. omega arith), ne_eqb b 13 (λ e. omega arith), ne_eqb b 10 (λ e. omega arith)) refl

solid-decimal : (n : ℕ) → n < 2 ^ 64 → list_all is_word_byte (decimal n) ≡ true
solid-decimal =
    decimal_by_steps (λ n ds. list_all is_word_byte ds ≡ true)
    (λ n h. true-and (is_word_byte (48 + n)) true (is_word_byte-above (48 + n) (omega arith)) refl)
    (λ n ds h p. list_all-append is_word_byte ds ((48 + n % 10) ∷ []) ∙ true-and _ _ p
    (true-and (is_word_byte (48 + n % 10)) true (is_word_byte-above (48 + n % 10) (omega arith)) refl))

-- ---- the letter and the number of a line

letter-above : (role : Role) → 98 ≤ letter_of role
letter-above Input = omega arith
letter-above Output = omega arith
letter-above Work = omega arith
letter-above Borrowed = omega arith

abbrev role_of_letter : ℕ → Role
role_of_letter letter =
    cond (eqb letter 120) Input (cond (eqb letter 121) Output (cond (eqb letter 119) Work Borrowed))

role_of_letter-letter_of : (role : Role) → role_of_letter (letter_of role) ≡ role
role_of_letter-letter_of Input = refl
role_of_letter-letter_of Output = refl
role_of_letter-letter_of Work = refl
role_of_letter-letter_of Borrowed = refl

-- each role has a letter of its own
letter_of-injective : (a b : Role) → letter_of a ≡ letter_of b → a ≡ b
letter_of-injective a b e =
    sym (role_of_letter-letter_of a) ∙ ap role_of_letter e ∙ role_of_letter-letter_of b

pub ltb-above : (a b : ℕ) → b ≤ a → ltb a b ≡ false
ltb-above a b h = grind (arith, nat_tests)

-- no line stands before the first one of its role
first-below : (roles : Roles) (line : ℕ) → first_of roles (role_at roles line) ≤ line
first-below roles line = elim (cases_lt line roles.inputs) [
  | inl p ↦ rw (lt-ltb line roles.inputs p) (omega arith)
  | inr p ↦ elim (cases_lt line (roles.inputs + roles.outputs)) [
    | inl q ↦ rw (ltb-above line roles.inputs p, lt-ltb line (roles.inputs + roles.outputs) q) p
    | inr q ↦ elim (cases_lt line (roles.inputs + roles.outputs + roles.work)) [
      | inl r ↦ rw (ltb-above line roles.inputs p, ltb-above line (roles.inputs + roles.outputs) q, lt-ltb line (roles.inputs + roles.outputs + roles.work) r) q
      | inr r ↦ rw (
        ltb-above line roles.inputs p,
        ltb-above line (roles.inputs + roles.outputs) q,
        ltb-above line (roles.inputs + roles.outputs + roles.work) r,
      ) r
    ]
  ]
]

-- different lines have different names
name_of_line-injective : (roles : Roles) (i j : ℕ) → i < 2 ^ 64 → j < 2 ^ 64 → name_of_line roles i ≡ name_of_line roles j → i ≡ j
name_of_line-injective roles i j hi hj e =
    let letters : letter_of (role_at roles i) ≡ letter_of (role_at roles j) = cc in
    let digits : decimal (number_at roles i) ≡ decimal (number_at roles j) = cc in
    let same_role : role_at roles i ≡ role_at roles j = letter_of-injective _ _ letters in
    let firsts : first_of roles (role_at roles i) ≡ first_of roles (role_at roles j) = ap (first_of roles) same_role in
    let numbers : number_at roles i ≡ number_at roles j = decimal_injective (number_at roles i) (number_at roles j) (omega arith) (omega arith) digits in
    let from_i = first-below roles i in
    let from_j = first-below roles j in
    omega arith

-- a letter from `b` on and a number
IsName-lettered : (letter number : ℕ) → 98 ≤ letter → number < 2 ^ 64 → IsName (letter ∷ decimal number)
IsName-lettered letter number above low =
    let short : length (decimal number) ≤ 20 = length-decimal-le 20 number (omega arith) (omega arith) low in
    record {
      some = omega arith;
      few = omega arith;
      begins = λ barred. elim barred [ inl e ↦ omega arith | inr e ↦ omega arith ];
    }

IsWord-lettered : (letter number : ℕ) → 98 ≤ letter → number < 2 ^ 64 → IsWord (letter ∷ decimal number)
IsWord-lettered letter number above low = record {
  some = omega arith;
  solid = true-and _ _ (is_word_byte-above letter (omega arith)) (solid-decimal number low);
  plain = ne_eqb letter 35 (λ e. omega arith);
}

plain-decimal : (n : ℕ) → n < 2 ^ 64 → is_comment (decimal n) ≡ false
plain-decimal =
    decimal_by_steps (λ n ds. is_comment ds ≡ false)
    (λ n h. ne_eqb (48 + n) 35 (λ e. omega arith))
    (λ n ds h p. by ds (48 + n % 10) p (ne_eqb (48 + n % 10) 35 (λ e. omega arith)))
  where
    by : (ds : List ℕ) (d : ℕ) → is_comment ds ≡ false → eqb d 35 ≡ false → is_comment (ds ++ d ∷ []) ≡ false
    by [] d p e = e
    by (b ∷ bs) d p e = p

pub IsWord-decimal : (n : ℕ) → n < 2 ^ 64 → IsWord (decimal n)
IsWord-decimal n h = record { some = decimal_nonempty n h; solid = solid-decimal n h; plain = plain-decimal n h }

-- ---- all names

-- so many lines have names that the format takes, and no two have one name
pub record AreGood (name : ℕ → List ℕ) (count : ℕ) : Type 0 where
  pub words : (line : ℕ) → line < count → IsWord (name line)
  pub named : (line : ℕ) → line < count → IsName (name line)
  pub apart : (i j : ℕ) → i < count → j < count → name i ≡ name j → i ≡ j

pub good_by_role : (roles : Roles) → lines_in roles ≤ 16384 → AreGood (name_of_line roles) (lines_in roles)
good_by_role roles few = record {
  words = λ line h. IsWord-lettered (letter_of (role_at roles line)) (number_at roles line) (letter-above (role_at roles line)) (omega arith);
  named = λ line h. IsName-lettered (letter_of (role_at roles line)) (number_at roles line) (letter-above (role_at roles line)) (omega arith);
  apart = λ i j hi hj e. name_of_line-injective roles i j (omega arith) (omega arith) e;
}

pub good_by_number : (count : ℕ) → count ≤ 16384 → AreGood numbered_name count
good_by_number count few = record {
  words = λ line h. IsWord-lettered 108 line (omega arith) (omega arith);
  named = λ line h. IsName-lettered 108 line (omega arith) (omega arith);
  apart = λ i j hi hj e. decimal_injective i j (omega arith) (omega arith) cc;
}

pub length-names_by : (name : ℕ → List ℕ) (count : ℕ) → length (names_by name count) ≡ count
length-names_by name count = length-map-range_with_len name 0 count

apart_range : {X : Type 0} (f : ℕ → X) (a n : ℕ) → ((i j : ℕ) → a ≤ i → i < j → j < a + n → ¬ (f i ≡ f j))
    → AreApart (λ one other. one ≡ other) (map f (range_with_len a n))
apart_range f a zero apart = tt
apart_range f a (suc n) apart = (
  AllByRecursion-range (λ y. ¬ (f a ≡ y)) f (a + 1) n (λ i low high. apart a i (omega arith) (omega (arith, low)) (omega (arith, high))),
  apart_range f (a + 1) n (λ i j low less high. apart i j (omega (arith, low)) less (omega (arith, high))),
)

pub names_are_good : (name : ℕ → List ℕ) (count : ℕ) → AreGood name count → AreNames (names_by name count)
names_are_good name count good = record {
  named = AllByRecursion-range IsName name 0 count (λ i low high. good.named i (omega arith));
  different = apart_range name 0 count
      (λ i j low less high e. let same : i ≡ j = good.apart i j (omega (arith, less, high)) (omega (arith, high)) e in omega (arith, less, same));
}

pub names_are_words : (name : ℕ → List ℕ) (count : ℕ) → AreGood name count → AllByRecursion IsWord (names_by name count)
names_are_words name count good = AllByRecursion-range IsWord name 0 count (λ i low high. good.words i (omega arith))

-- the name of a line of the circuit stands at its place
pub name_at : (name : ℕ → List ℕ) (count line : ℕ) → line < count → slice_get (names_by name count) line ≡ Some (name line)
name_at name count line h = slice_get-range name 0 count line h ∙ ap (λ k. Some (name k)) (omega arith)

-- the names of all lines, each behind a space
pub length-spaced_names : (name : ℕ → List ℕ) (count : ℕ) → length (map (λ w. 32 ∷ w) (names_by name count)) ≡ count
length-spaced_names name count = length-map (names_by name count) (λ w. 32 ∷ w) ∙ length-names_by name count

pub spaced_name_at : (name : ℕ → List ℕ) (count line : ℕ) → line < count
    → slice_get (map (λ w. 32 ∷ w) (names_by name count)) line ≡ Some (32 ∷ name line)
spaced_name_at name count line h = mapped_at (λ w. 32 ∷ w) (names_by name count) line (name line) (name_at name count line h)

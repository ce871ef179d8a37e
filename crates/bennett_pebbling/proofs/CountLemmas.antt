-- How many numbers pass a test.
use Rattle.std.proofs.Common.{◌≡◌, ◌≢◌, ℕ, zero, suc, ◌+◌, ◌-◌, ◌<◌, ◌≤◌, ◌==◌, Bool, true, false, ◌||◌, ◌&&◌, inl, inr, List, [], ◌∷◌, length}
use Rattle.std.proofs.Common.{Option, Some, None, is_some, refl, sym, ap, ◌∙◌, subst, arith, cond}
use Rattle.std.specs.Prelude.{nat_le, nat_lt, min, max}
use Rattle.std.proofs.lemmas.Bool.{cases_Bool, cases_eq, eqb-true, leb-true, le-leb}
use Rattle.std.proofs.lemmas.List.Recursion.{is_count_by}
use Rattle.revs_tape.specs.Cuts.{is_in}
use Rattle.held_nodes.specs.Held.{held_count, is_held}
use Rattle.bennett_pebbling.specs.inside.Costs.{counted, one_if}

-- ---- one bit

one_if-most : (a : Bool) → one_if a ≤ 1
one_if-most true = omega arith
one_if-most false = omega arith

one_if-weaker : (a b : Bool) → (a ≡ true → b ≡ true) → one_if a ≤ one_if b
one_if-weaker true b more = rw (more refl) (omega arith)
one_if-weaker false b more = omega arith

one_if-or : (a b : Bool) → one_if (a || b) ≤ one_if a + one_if b
one_if-or true b = omega arith
one_if-or false b = omega arith

-- ---- bounds

pub counted-most : (p : ℕ → Bool) (n : ℕ) → counted p n ≤ n
counted-most p zero = omega arith
counted-most p (suc n) = omega (arith, counted-most p n, one_if-most (p n))

pub counted-weaker : (p q : ℕ → Bool) (n : ℕ) → ((k : ℕ) → k < n → p k ≡ true → q k ≡ true) → counted p n ≤ counted q n
counted-weaker p q zero more = omega arith
counted-weaker p q (suc n) more =
    omega (arith, counted-weaker p q n (λ k low. more k (omega (arith, low))), one_if-weaker (p n) (q n) (more n (omega arith)))

-- a number that one test alone passes
pub counted-below : (p q : ℕ → Bool) (n k : ℕ) → k < n → p k ≡ false → q k ≡ true → ((j : ℕ) → p j ≡ true → q j ≡ true)
    → counted p n + 1 ≤ counted q n
counted-below p q zero k low no_p yes_q more = absurd (omega (arith, low))
counted-below p q (suc n) k low no_p yes_q more =
    elim (cases_eq k n) as (λ _. counted p (suc n) + 1 ≤ counted q (suc n)) [
      | inl e ↦
          let none : one_if (p n) ≡ 0 = ap one_if (sym (ap p e) ∙ no_p) in
          let one : one_if (q n) ≡ 1 = ap one_if (sym (ap q e) ∙ yes_q) in
          omega (arith, counted-weaker p q n (λ j _. more j), none, one)
      | inr ne ↦
          let other : k ≢ n = ne in
          omega (arith, counted-below p q n k (omega (arith, low)) no_p yes_q more, one_if-weaker (p n) (q n) (more n))
    ]

pub counted-or : (p q : ℕ → Bool) (n : ℕ) → counted (λ k. p k || q k) n ≤ counted p n + counted q n
counted-or p q zero = omega arith
counted-or p q (suc n) = omega (arith, counted-or p q n, one_if-or (p n) (q n))

pub counted-longer : (p : ℕ → Bool) (m n : ℕ) → m ≤ n → counted p m ≤ counted p n
counted-longer p m zero low = let e : m ≡ 0 = omega arith in subst (λ i. counted p i ≤ counted p 0) (sym e) (omega arith)
counted-longer p m (suc n) low =
    elim (cases_eq m (suc n)) as (λ _. counted p m ≤ counted p (suc n)) [
      | inl e ↦ subst (λ i. counted p i ≤ counted p (suc n)) (sym e) (omega arith)
      | inr ne ↦ let other : m ≢ suc n = ne in omega (arith, counted-longer p m n (omega (arith, low)))
    ]

-- how many numbers from k to n pass the test
abbrev pub counted-from : (ℕ → Bool) → ℕ → ℕ → ℕ
counted-from p k n = counted p n - counted p k

pub counted-from-all : (p : ℕ → Bool) (n : ℕ) → counted-from p 0 n ≡ counted p n
counted-from-all p n = omega arith

pub counted-from-part : (p : ℕ → Bool) (k h n : ℕ) → k + 1 ≡ h → h ≤ n → counted-from p h n + one_if (p k) ≡ counted-from p k n
counted-from-part p k h n next low =
    let is : suc k ≡ h = omega (arith, next) in
    let step : counted p h ≡ counted p k + one_if (p k) = ap (counted p) (sym is) in
    omega (arith, step, counted-longer p h n low)

-- ---- ranges

-- whether a number is in the range
abbrev pub is_between : ℕ → ℕ → ℕ → Bool
is_between lo count k = nat_le lo k && nat_lt k (lo + count)

pub between : (lo count k : ℕ) → lo ≤ k → k < lo + count → is_between lo count k ≡ true
between lo count k low high = rw (le-leb lo k low) (le-leb (suc k) (lo + count) high)

pub between-at : (lo count k : ℕ) → k < count → is_between lo count (lo + k) ≡ true
between-at lo count k low = between lo count (lo + k) (omega arith) (omega (arith, low))

pub from_between : (lo count k : ℕ) → is_between lo count k ≡ true → (lo ≤ k) × (k < lo + count)
from_between lo count k is = elim (cases_Bool (nat_le lo k)) as (λ _. (lo ≤ k) × (k < lo + count)) [
  | inl e ↦ (leb-true lo k e, leb-true (suc k) (lo + count) (sym (rw e refl) ∙ is))
  | inr e ↦ absurd (let clash : false ≡ true = sym (rw e refl) ∙ is in cc)
]

between_step : (lo count n : ℕ) (b : Bool) → is_between lo count n ≡ b → counted (is_between lo count) n ≤ count
    → counted (is_between lo count) n + lo ≤ max n lo
    → (counted (is_between lo count) n + one_if b ≤ count) × (counted (is_between lo count) n + one_if b + lo ≤ max (suc n) lo)
between_step lo count n true is few within = let at = from_between lo count n is in (omega (arith, at, few, within), omega (arith, at, few, within))
between_step lo count n false is few within = (omega (arith, few), omega (arith, within))

between_both : (lo count n : ℕ) → (counted (is_between lo count) n ≤ count) × (counted (is_between lo count) n + lo ≤ max n lo)
between_both lo count zero = (omega arith, omega arith)
between_both lo count (suc n) =
    let before = between_both lo count n in between_step lo count n (is_between lo count n) refl before.0 before.1

pub counted-between : (lo count n : ℕ) → counted (is_between lo count) n ≤ min count n
counted-between lo count n =
    omega (arith, (between_both lo count n).0, counted-most (is_between lo count) n)

-- ---- numbers in a list

single-none : (x n : ℕ) → n ≤ x → counted (λ k. x == k) n ≡ 0
single-none x zero low = refl
single-none x (suc n) low =
    elim (cases_Bool (x == n)) as (λ _. counted (λ k. x == k) n + one_if (x == n) ≡ 0) [
      | inl e ↦ absurd (let same : x ≡ n = eqb-true x n e in omega (arith, same, low))
      | inr e ↦ let none : one_if (x == n) ≡ 0 = ap one_if e in omega (arith, none, single-none x n (omega (arith, low)))
    ]

single : (x n : ℕ) → counted (λ k. x == k) n ≤ 1
single x zero = omega arith
single x (suc n) =
    elim (cases_Bool (x == n)) as (λ _. counted (λ k. x == k) n + one_if (x == n) ≤ 1) [
      | inl e ↦
          let same : x ≡ n = eqb-true x n e in
          omega (arith, single-none x n (omega (arith, same)), one_if-most (x == n))
      | inr e ↦ let none : one_if (x == n) ≡ 0 = ap one_if e in omega (arith, none, single x n)
    ]

counted-none : (n : ℕ) → counted (λ k. false) n ≡ 0
counted-none zero = refl
counted-none (suc n) = omega (arith, counted-none n)

pub counted-in : (xs : List ℕ) (n : ℕ) → counted (is_in xs) n ≤ length xs
counted-in [] n = let none = counted-none n in omega (arith, none)
counted-in (x ∷ xs) n = omega (arith, counted-or (λ k. x == k) (is_in xs) n, single x n, counted-in xs n)

-- ---- held nodes

counted-front : (p : ℕ → Bool) (n : ℕ) → counted p (suc n) ≡ one_if (p 0) + counted (λ k. p (suc k)) n
counted-front p zero = omega arith
counted-front p (suc n) = omega (arith, counted-front p n)

held_front : (x : Option ℕ) (xs : List (Option ℕ))
    → counted (is_held (x ∷ xs)) (length (x ∷ xs)) ≡ cond (is_some x) (1 + counted (is_held xs) (length xs)) (counted (is_held xs) (length xs))
held_front (Some line) xs = counted-front (is_held (Some line ∷ xs)) (length xs)
held_front None xs = let e = counted-front (is_held (None ∷ xs)) (length xs) in omega (arith, e)

pub counted-held : (lines : List (Option ℕ)) → held_count lines ≡ counted (is_held lines) (length lines)
counted-held lines = sym (is_count_by (λ (xs : List (Option ℕ)). counted (is_held xs) (length xs)) is_some refl held_front lines)

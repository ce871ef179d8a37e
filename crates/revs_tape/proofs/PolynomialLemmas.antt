-- A function has one polynomial: where two sets of monomials differ, so do their values at the input that has
-- ones at a shortest monomial in which they differ.
use Rattle.std.proofs.Common.{◌≡◌, ◌≢◌, ℕ, ◌<◌, ◌≤◌, Bool, true, false, ◌||◌, eqb, List, [], ◌∷◌, length, refl, sym, ◌∙◌, subst, inl, inr, arith}
use Rattle.std.specs.List.{AllByRecursion, list_all}
use Rattle.std.specs.Ordering.{nat_cmp}
use Rattle.std.specs.Cmp.Lexicographic.{slice_cmp}
use Rattle.std.specs.declared.cmp.Ordering.TheVariants.{Less, Equal}
use Rattle.std.proofs.lemmas.Bool.{cases_Bool, cases_lt, eqb-true, eqb-false, eq-eqb, ne_eqb, and_parts, true≢false, false_from_ne_true, or_left, or_right}
use Rattle.std.proofs.lemmas.Cmp.{nat_list_cmp_total, tied_itself}
use Rattle.revs_tape.specs.inside.Aligned.{Pair, left, right, both, aligned, alone}
use Rattle.list_facts.specs.Lists.{IsAmong}
use Rattle.list_facts.specs.Lists.{IsRising}
use Rattle.revs_tape.specs.Polynomials.{value_of_polynomial, IsInOrder, IsPolynomial, PolynomialsAreUnique}
use Rattle.revs_tape.specs.inside.Sums.{exclusive_sum_of}
use Rattle.revs_tape.proofs.AlignmentLemmas.{lefts, rights, lefts-aligned, rights-aligned, IsTied, tied-aligned}
use Rattle.list_facts.proofs.BitLemmas.{xor_none, xor_nothing, xor_same}
use Rattle.revs_tape.proofs.SumLemmas.{same_from_equal, value-exclusive_sum_of, IsPolynomial-exclusive_sum_of}
use Rattle.list_facts.proofs.AllLemmas.{AllByRecursion-weaker}

-- ---- the input that has ones at a list

abbrev ones : List ℕ → ℕ → Bool
ones [] i = false
ones (x ∷ xs) i = eqb x i || ones xs i

-- all of the first list stand in the second
abbrev fits : List ℕ → List ℕ → Bool
fits n m = list_all (ones m) n

not_among : (i : ℕ) (xs : List ℕ) → AllByRecursion (λ x. i < x) xs → ones xs i ≡ false
not_among i [] h = refl
not_among i (x ∷ xs) h = rw (ne_eqb x i (λ e. absurd (omega (arith, h.0)))) (not_among i xs h.1)

-- above x, what fits x ∷ xs fits xs
fits_above : (x : ℕ) (n xs : List ℕ) → AllByRecursion (λ y. x < y) n → fits n (x ∷ xs) ≡ fits n xs
fits_above x [] xs h = refl
fits_above x (y ∷ ys) xs h =
    let other : eqb x y ≡ false = ne_eqb x y (λ e. absurd (omega (arith, h.0))) in
    rw (other, fits_above x ys xs h.1) refl

-- rising lists: what fits is no longer
fits_length : (m n : List ℕ) → IsRising m → IsRising n → fits n m ≡ true → length n ≤ length m
fits_length [] [] a b h = omega arith
fits_length [] (y ∷ ys) a b h = absurd (true≢false (sym h))
fits_length (x ∷ xs) [] a b h = omega arith
fits_length (x ∷ xs) (y ∷ ys) a b h =
    elim (cases_lt x y) [
      | inl l ↦ let up : AllByRecursion (λ z. x < z) (y ∷ ys) = (l, AllByRecursion-weaker (λ z. y < z) (λ z. x < z) (λ z k. omega arith) ys b.0) in
          omega (arith, fits_length xs (y ∷ ys) a.1 b (sym (fits_above x (y ∷ ys) xs up) ∙ h))
      | inr g ↦ elim (cases_Bool (eqb x y)) [
        | inl e ↦
            let same : x ≡ y = eqb-true x y e in
            let up : AllByRecursion (λ z. x < z) ys = AllByRecursion-weaker (λ z. y < z) (λ z. x < z) (λ z k. omega arith) ys b.0 in
            let rest = (and_parts (ones (x ∷ xs) y) (fits ys (x ∷ xs)) h).1 in
            omega (arith, fits_length xs ys a.1 b.1 (sym (fits_above x ys xs up) ∙ rest))
        | inr n ↦
            let below : y < x = let ne : x ≢ y = eqb-false x y n in omega arith in
            let none : ones (x ∷ xs) y ≡ false = not_among y (x ∷ xs) (below, AllByRecursion-weaker (λ z. x < z) (λ z. y < z) (λ z k. omega arith) xs a.0) in
            absurd (true≢false (sym (and_parts (ones (x ∷ xs) y) (fits ys (x ∷ xs)) h).0 ∙ none))
      ]
    ]

-- and as long only where it is the same
fits_same : (m n : List ℕ) → IsRising m → IsRising n → fits n m ≡ true → length m ≤ length n → n ≡ m
fits_same [] [] a b h l = refl
fits_same [] (y ∷ ys) a b h l = absurd (true≢false (sym h))
fits_same (x ∷ xs) [] a b h l = absurd (omega arith)
fits_same (x ∷ xs) (y ∷ ys) a b h l =
    elim (cases_lt x y) [
      | inl k ↦ let up : AllByRecursion (λ z. x < z) (y ∷ ys) = (k, AllByRecursion-weaker (λ z. y < z) (λ z. x < z) (λ z j. omega arith) ys b.0) in
          absurd (omega (arith, fits_length xs (y ∷ ys) a.1 b (sym (fits_above x (y ∷ ys) xs up) ∙ h)))
      | inr g ↦ elim (cases_Bool (eqb x y)) [
        | inl e ↦
            let same : x ≡ y = eqb-true x y e in
            let up : AllByRecursion (λ z. x < z) ys = AllByRecursion-weaker (λ z. y < z) (λ z. x < z) (λ z k. omega arith) ys b.0 in
            let rest = (and_parts (ones (x ∷ xs) y) (fits ys (x ∷ xs)) h).1 in
            let tails : ys ≡ xs = fits_same xs ys a.1 b.1 (sym (fits_above x ys xs up) ∙ rest) (omega arith) in
            rw (same, tails) refl
        | inr n ↦
            let below : y < x = let ne : x ≢ y = eqb-false x y n in omega arith in
            let none : ones (x ∷ xs) y ≡ false = not_among y (x ∷ xs) (below, AllByRecursion-weaker (λ z. x < z) (λ z. y < z) (λ z k. omega arith) xs a.0) in
            absurd (true≢false (sym (and_parts (ones (x ∷ xs) y) (fits ys (x ∷ xs)) h).0 ∙ none))
      ]
    ]

fits_ones : (m n : List ℕ) → AllByRecursion (λ i. ones m i ≡ true) n → fits n m ≡ true
fits_ones m [] h = refl
fits_ones m (i ∷ is) h = rw (h.0, fits_ones m is h.1) refl

fits_more : (x : ℕ) (m n : List ℕ) → AllByRecursion (λ i. ones m i ≡ true) n → AllByRecursion (λ i. ones (x ∷ m) i ≡ true) n
fits_more x m n h = AllByRecursion-weaker (λ i. ones m i ≡ true) (λ i. ones (x ∷ m) i ≡ true) (λ i e. or_right (eqb x i) (ones m i) e) n h

all_ones : (m : List ℕ) → AllByRecursion (λ i. ones m i ≡ true) m
all_ones [] = tt
all_ones (x ∷ xs) = (or_left (eqb x x) (ones xs x) (eq-eqb x x refl), fits_more x xs xs (all_ones xs))

-- ---- a shortest monomial

record IsShortest (p : List (List ℕ)) : Type 0 where
  monomial : List ℕ
  among : IsAmong monomial p
  shortest : AllByRecursion (λ n. length monomial ≤ length n) p

shortest : (m : List ℕ) (p : List (List ℕ)) → IsShortest (m ∷ p)
shortest m [] = record { monomial = m; among = inl refl; shortest = (omega arith, tt) }
shortest m (n ∷ ns) =
    let rest = shortest n ns in
    elim (cases_lt (length m) (length rest.monomial)) [
      | inl l ↦ record {
        monomial = m;
        among = inl refl;
        shortest = (
          omega arith,
          AllByRecursion-weaker (λ k. length rest.monomial ≤ length k)
              (λ k. length m ≤ length k) (λ k j. omega arith) (n ∷ ns) rest.shortest,
        );
      }
      | inr g ↦ record { monomial = rest.monomial; among = inr rest.among; shortest = (g, rest.shortest) }
    ]

-- the other monomials are 0 at the ones of a shortest one
none_fits : (m : List ℕ) (p : List (List ℕ)) → IsRising m → AllByRecursion IsRising p → AllByRecursion (λ n. length m ≤ length n) p
    → AllByRecursion (λ n. n ≢ m) p
    → value_of_polynomial (ones m) p ≡ false
none_fits m [] a r l d = refl
none_fits m (n ∷ ns) a r l d =
    let here : fits n m ≡ false = false_from_ne_true (fits n m) (λ e. d.0 (fits_same m n a r.0 e l.0)) in
    rw here (xor_none (value_of_polynomial (ones m) ns) ∙ none_fits m ns a r.1 l.1 d.1)

different_from : (m : List ℕ) (p : List (List ℕ)) → AllByRecursion (λ n. slice_cmp nat_cmp m n ≡ Less) p → AllByRecursion (λ n. n ≢ m) p
different_from m p h =
    AllByRecursion-weaker (λ n. slice_cmp nat_cmp m n ≡ Less) (λ n. n ≢ m) (λ n l e.
    let same : slice_cmp nat_cmp m m ≡ Equal = tied_itself nat_list_cmp_total m in
    let less : slice_cmp nat_cmp m m ≡ Less = subst (λ k. slice_cmp nat_cmp m k ≡ Less) e l in cc) p h

is_rising_among : (m : List ℕ) (p : List (List ℕ)) → AllByRecursion IsRising p → IsAmong m p → IsRising m
is_rising_among m [] r k = elim k [ ]
is_rising_among m (n ∷ ns) r (inl e) = subst IsRising (sym e) r.0
is_rising_among m (n ∷ ns) r (inr k) = is_rising_among m ns r.1 k

apart_from : (m n : List ℕ) (ns : List (List ℕ)) → n ≡ m → AllByRecursion (λ k. slice_cmp nat_cmp n k ≡ Less) ns → IsAmong m ns → ⊥
apart_from m n [] e o i = elim i [ ]
apart_from m n (k ∷ ks) e o (inl i) =
    let same : slice_cmp nat_cmp n n ≡ Equal = tied_itself nat_list_cmp_total n in
    let less : slice_cmp nat_cmp n n ≡ Less = subst (λ j. slice_cmp nat_cmp n j ≡ Less) (sym (e ∙ i)) o.0 in cc
apart_from m n (k ∷ ks) e o (inr i) = apart_from m n ks e o.1 i

one_at : (m : List ℕ) (p : List (List ℕ)) → IsRising m → AllByRecursion IsRising p → IsInOrder (slice_cmp nat_cmp) p
    → AllByRecursion (λ n. length m ≤ length n) p → IsAmong m p
    → value_of_polynomial (ones m) p ≡ true
one_at m [] a r o l k = elim k [ ]
one_at m (n ∷ ns) a r o l (inl e) =
    let here : fits n m ≡ true = subst (λ k. fits k m ≡ true) e (fits_ones m m (all_ones m)) in
    let rest : value_of_polynomial (ones m) ns ≡ false = none_fits m ns a r.1 l.1
    (different_from m ns (subst (λ (k : List ℕ). AllByRecursion (λ n. slice_cmp nat_cmp k n ≡ Less) ns) (sym e) o.0)) in
    rw (here, rest) (xor_nothing true)
one_at m (n ∷ ns) a r o l (inr k) =
    let here : fits n m ≡ false = false_from_ne_true (fits n m) (λ e. apart_from m n ns (fits_same m n a r.0 e l.0) o.0 k) in
    rw here (xor_none (value_of_polynomial (ones m) ns) ∙ one_at m ns a r.1 o.1 l.1 k)

-- ---- uniqueness

empty_from_values : (p : List (List ℕ)) → IsPolynomial p → ((x : ℕ → Bool) → value_of_polynomial x p ≡ false) → p ≡ []
empty_from_values [] h v = refl
empty_from_values (m ∷ ms) h v =
    let s = shortest m ms in
    let one = one_at s.monomial (m ∷ ms) (is_rising_among s.monomial (m ∷ ms) h.rising s.among) h.rising h.in_order s.shortest s.among in
    absurd (true≢false (sym one ∙ v (ones s.monomial)))

same_if_none_alone : (ps : List (Pair (List ℕ))) → AllByRecursion (IsTied (slice_cmp nat_cmp)) ps → alone ps ≡ [] → lefts ps ≡ rights ps
same_if_none_alone [] t h = refl
same_if_none_alone (left m ∷ ps) t h = cc
same_if_none_alone (right n ∷ ps) t h = cc
same_if_none_alone (both m n ∷ ps) t h =
    let first : m ≡ n = same_from_equal m n t.0 in
    let rest : lefts ps ≡ rights ps = same_if_none_alone ps t.1 h in
    rw (first, rest) refl

pub polynomials_are_unique : PolynomialsAreUnique
polynomials_are_unique p q a b v =
    let none = empty_from_values (exclusive_sum_of p q) (IsPolynomial-exclusive_sum_of p q a b)
    (λ x. value-exclusive_sum_of x p q ∙ rw (v x) (xor_same (value_of_polynomial x q))) in
    sym (lefts-aligned (slice_cmp nat_cmp) p q) ∙ same_if_none_alone (aligned (slice_cmp nat_cmp) p q) (tied-aligned (slice_cmp nat_cmp) p q) none
    ∙ rights-aligned (slice_cmp nat_cmp) p q

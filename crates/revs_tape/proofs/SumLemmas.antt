-- Sums and products of monomials: their values, their order and how many monomials they have.
use Rattle.std.proofs.Common.{◌≡◌, ℕ, ◌<◌, Bool, true, false, ◌&&◌, List, [], ◌∷◌, ◌++◌, map, refl, sym, ◌∙◌, subst}
use Rattle.std.specs.Bool.{xor}
use Rattle.std.specs.List.{AllByRecursion, list_all}
use Rattle.std.specs.Ordering.{nat_cmp, MatchOrdering, ordering_then}
use Rattle.std.specs.Cmp.Lexicographic.{slice_cmp}
use Rattle.std.specs.declared.cmp.Ordering.{Ordering}
use Rattle.std.specs.declared.cmp.Ordering.TheVariants.{Less, Equal, Greater}
use Rattle.std.proofs.lemmas.Bool.{lt-ltb}
use Rattle.std.proofs.lemmas.Cmp.{ranked, nat_cmp_total, nat_list_cmp_total}
use Rattle.revs_tape.specs.inside.Aligned.{Pair, left, right, both, aligned, key_of, alone}
use Rattle.list_facts.specs.Lists.{IsRising}
use Rattle.revs_tape.specs.Polynomials.{value_of_monomial, value_of_polynomial, IsInOrder, IsPolynomial}
use Rattle.revs_tape.specs.inside.Sums.{union_of, exclusive_sum_of}
use Rattle.revs_tape.proofs.AlignmentLemmas.{lefts, rights, lefts-aligned, rights-aligned, IsTied, tied-aligned, by_key, in_order-aligned}
use Rattle.list_facts.proofs.BitLemmas.{xor_none, xor_nothing, xor_left, xor_right, xor_both, and_nothing}
use Rattle.list_facts.proofs.AllLemmas.{AllByRecursion-weaker}

-- ---- values

and_left_in : (v l r : Bool) → (v && (l && r)) ≡ ((v && l) && r)
and_left_in true l r = refl
and_left_in false l r = refl

and_right_in : (v l r : Bool) → (v && (l && r)) ≡ (l && (v && r))
and_right_in true l r = refl
and_right_in false l r = sym (and_nothing l)

and_both : (v l r : Bool) → (v && (l && r)) ≡ ((v && l) && (v && r))
and_both true l r = refl
and_both false l r = refl

pub value-append : (x : ℕ → Bool) (p q : List (List ℕ)) → value_of_polynomial x (p ++ q) ≡ xor (value_of_polynomial x p) (value_of_polynomial x q)
value-append x [] q = sym (xor_none (value_of_polynomial x q))
value-append x (m ∷ ms) q = rw (value-append x ms q) (xor_left (value_of_monomial x m) (value_of_polynomial x ms) (value_of_polynomial x q))

-- ---- order

pub less_from_lt : (x y : ℕ) → x < y → nat_cmp x y ≡ Less
less_from_lt x y h = rw (lt-ltb x y h) refl

pub lt_from_less : (x y : ℕ) → nat_cmp x y ≡ Less → x < y
lt_from_less x y e = subst (λ (o : Ordering). MatchOrdering o (x < y) (x ≡ y) (y < x)) e (ranked x y (nat_cmp x y) refl)

pub eq_from_equal : (x y : ℕ) → nat_cmp x y ≡ Equal → x ≡ y
eq_from_equal x y e = subst (λ (o : Ordering). MatchOrdering o (x < y) (x ≡ y) (y < x)) e (ranked x y (nat_cmp x y) refl)

pub in_order_from_rising : (xs : List ℕ) → IsRising xs → IsInOrder nat_cmp xs
in_order_from_rising [] h = tt
in_order_from_rising (x ∷ xs) h = (AllByRecursion-weaker (λ y. x < y) (λ y. nat_cmp x y ≡ Less) (less_from_lt x) xs h.0, in_order_from_rising xs h.1)

pub rising_from_in_order : (xs : List ℕ) → IsInOrder nat_cmp xs → IsRising xs
rising_from_in_order [] h = tt
rising_from_in_order (x ∷ xs) h = (AllByRecursion-weaker (λ y. nat_cmp x y ≡ Less) (λ y. x < y) (lt_from_less x) xs h.0, rising_from_in_order xs h.1)

then_equal : (o p : Ordering) → ordering_then o p ≡ Equal → (o ≡ Equal) × (p ≡ Equal)
then_equal Less p h = cc
then_equal Equal p h = (refl, h)
then_equal Greater p h = cc

pub same_from_equal : (m n : List ℕ) → slice_cmp nat_cmp m n ≡ Equal → m ≡ n
same_from_equal [] [] h = refl
same_from_equal [] (y ∷ ys) h = cc
same_from_equal (x ∷ xs) [] h = cc
same_from_equal (x ∷ xs) (y ∷ ys) h =
    let parts = then_equal (nat_cmp x y) (slice_cmp nat_cmp xs ys) h in
    let first : x ≡ y = eq_from_equal x y parts.0 in
    let rest : xs ≡ ys = same_from_equal xs ys parts.1 in
    rw (first, rest) refl

-- ---- sums

value-alone : (x : ℕ → Bool) (ps : List (Pair (List ℕ))) → AllByRecursion (IsTied (slice_cmp nat_cmp)) ps
    → value_of_polynomial x (alone ps) ≡ xor (value_of_polynomial x (lefts ps)) (value_of_polynomial x (rights ps))
value-alone x [] t = sym (xor_none false)
value-alone x (left m ∷ ps) t = rw (value-alone x ps t.1)
    (xor_left (value_of_monomial x m) (value_of_polynomial x (lefts ps)) (value_of_polynomial x (rights ps)))
value-alone x (right n ∷ ps) t = rw (value-alone x ps t.1)
    (xor_right (value_of_monomial x n) (value_of_polynomial x (lefts ps)) (value_of_polynomial x (rights ps)))
value-alone x (both m n ∷ ps) t =
    let same : m ≡ n = same_from_equal m n t.0 in
    rw (value-alone x ps t.1, same) (xor_both (value_of_monomial x n) (value_of_polynomial x (lefts ps)) (value_of_polynomial x (rights ps)))

pub value-exclusive_sum_of : (x : ℕ → Bool) (p q : List (List ℕ))
    → value_of_polynomial x (exclusive_sum_of p q) ≡ xor (value_of_polynomial x p) (value_of_polynomial x q)
value-exclusive_sum_of x p q =
    let ps = aligned (slice_cmp nat_cmp) p q in
    value-alone x ps (tied-aligned (slice_cmp nat_cmp) p q)
    ∙ rw (lefts-aligned (slice_cmp nat_cmp) p q, rights-aligned (slice_cmp nat_cmp) p q) refl

above-alone : (m : List ℕ) (ps : List (Pair (List ℕ))) → AllByRecursion (λ (p : Pair (List ℕ)). slice_cmp nat_cmp m (key_of p) ≡ Less) ps
    → AllByRecursion (λ n. slice_cmp nat_cmp m n ≡ Less) (alone ps)
above-alone m [] h = tt
above-alone m (left n ∷ ps) h = (h.0, above-alone m ps h.1)
above-alone m (right n ∷ ps) h = (h.0, above-alone m ps h.1)
above-alone m (both n k ∷ ps) h = above-alone m ps h.1

in_order-alone : (ps : List (Pair (List ℕ))) → IsInOrder (by_key (slice_cmp nat_cmp)) ps → IsInOrder (slice_cmp nat_cmp) (alone ps)
in_order-alone [] h = tt
in_order-alone (left m ∷ ps) h = (above-alone m ps h.0, in_order-alone ps h.1)
in_order-alone (right n ∷ ps) h = (above-alone n ps h.0, in_order-alone ps h.1)
in_order-alone (both m n ∷ ps) h = in_order-alone ps h.1

All-alone : {A : Type 0} (P : A → Type 0) (ps : List (Pair A)) → AllByRecursion P (lefts ps) → AllByRecursion P (rights ps) → AllByRecursion P (alone ps)
All-alone P [] a b = tt
All-alone P (left m ∷ ps) a b = (a.0, All-alone P ps a.1 b)
All-alone P (right n ∷ ps) a b = (b.0, All-alone P ps a b.1)
All-alone P (both m n ∷ ps) a b = All-alone P ps a.1 b.1

pub All-exclusive_sum_of : (P : List ℕ → Type 0) (p q : List (List ℕ)) → AllByRecursion P p → AllByRecursion P q → AllByRecursion P (exclusive_sum_of p q)
All-exclusive_sum_of P p q a b =
    All-alone P (aligned (slice_cmp nat_cmp) p q)
    (subst (AllByRecursion P) (sym (lefts-aligned (slice_cmp nat_cmp) p q)) a)
    (subst (AllByRecursion P) (sym (rights-aligned (slice_cmp nat_cmp) p q)) b)

pub IsPolynomial-exclusive_sum_of : (p q : List (List ℕ)) → IsPolynomial p → IsPolynomial q → IsPolynomial (exclusive_sum_of p q)
IsPolynomial-exclusive_sum_of p q a b = record {
  rising = All-exclusive_sum_of IsRising p q a.rising b.rising;
  in_order = in_order-alone (aligned (slice_cmp nat_cmp) p q) (in_order-aligned (slice_cmp nat_cmp) nat_list_cmp_total p q a.in_order b.in_order);
}

-- ---- products of two monomials

value-keys : (x : ℕ → Bool) (ps : List (Pair ℕ)) → AllByRecursion (IsTied nat_cmp) ps
    → list_all x (map key_of ps) ≡ (list_all x (lefts ps) && list_all x (rights ps))
value-keys x [] t = refl
value-keys x (left i ∷ ps) t = rw (value-keys x ps t.1) (and_left_in (x i) (list_all x (lefts ps)) (list_all x (rights ps)))
value-keys x (right j ∷ ps) t = rw (value-keys x ps t.1) (and_right_in (x j) (list_all x (lefts ps)) (list_all x (rights ps)))
value-keys x (both i j ∷ ps) t =
    let same : i ≡ j = eq_from_equal i j t.0 in
    rw (value-keys x ps t.1, same) (and_both (x j) (list_all x (lefts ps)) (list_all x (rights ps)))

pub value-union_of : (x : ℕ → Bool) (m n : List ℕ) → value_of_monomial x (union_of m n) ≡ (value_of_monomial x m && value_of_monomial x n)
value-union_of x m n = value-keys x (aligned nat_cmp m n) (tied-aligned nat_cmp m n) ∙ rw (lefts-aligned nat_cmp m n, rights-aligned nat_cmp m n) refl

above-keys : (i : ℕ) (ps : List (Pair ℕ)) → AllByRecursion (λ (p : Pair ℕ). nat_cmp i (key_of p) ≡ Less) ps
    → AllByRecursion (λ j. nat_cmp i j ≡ Less) (map key_of ps)
above-keys i [] h = tt
above-keys i (p ∷ ps) h = (h.0, above-keys i ps h.1)

in_order-keys : (ps : List (Pair ℕ)) → IsInOrder (by_key nat_cmp) ps → IsInOrder nat_cmp (map key_of ps)
in_order-keys [] h = tt
in_order-keys (p ∷ ps) h = (above-keys (key_of p) ps h.0, in_order-keys ps h.1)

pub IsRising-union_of : (m n : List ℕ) → IsRising m → IsRising n → IsRising (union_of m n)
IsRising-union_of m n a b =
    rising_from_in_order (union_of m n)
    (in_order-keys (aligned nat_cmp m n) (in_order-aligned nat_cmp nat_cmp_total m n (in_order_from_rising m a) (in_order_from_rising n b)))

-- ---- the constant 1 and inputs

pub IsPolynomial-one : IsPolynomial ([] ∷ [])
IsPolynomial-one = record { rising = (tt, tt); in_order = (tt, tt) }

pub IsPolynomial-input : (i : ℕ) → IsPolynomial ((i ∷ []) ∷ [])
IsPolynomial-input i = record { rising = ((tt, tt), tt); in_order = (tt, tt) }

and_true : (b : Bool) → (b && true) ≡ b
and_true true = refl
and_true false = refl

pub value-input : (x : ℕ → Bool) (i : ℕ) → value_of_polynomial x ((i ∷ []) ∷ []) ≡ x i
value-input x i = xor_nothing (x i && true) ∙ and_true (x i)

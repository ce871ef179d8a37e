-- Products of polynomials, multiplied out: each product of two monomials is put in order, and equal ones cancel.
use Rattle.std.proofs.Common.{◌≡◌, ℕ, Bool, ◌&&◌, List, [], ◌∷◌, map, refl, sym, ◌∙◌, subst}
use Rattle.std.specs.List.{AllByRecursion}
use Rattle.std.specs.Ordering.{nat_cmp}
use Rattle.revs_tape.specs.inside.Aligned.{Pair, left, right, both, aligned, key_of}
use Rattle.list_facts.specs.Lists.{IsRising}
use Rattle.revs_tape.specs.Polynomials.{value_of_monomial, value_of_polynomial, IsPolynomial}
use Rattle.revs_tape.specs.inside.Sums.{union_of, exclusive_sum_of}
use Rattle.revs_tape.proofs.AlignmentLemmas.{lefts, rights, lefts-aligned, rights-aligned}
use Rattle.list_facts.proofs.BitLemmas.{xor_nothing, and_nothing, xor-and_left, xor-and_right}
use Rattle.revs_tape.proofs.SumLemmas.{value-exclusive_sum_of, All-exclusive_sum_of, IsPolynomial-exclusive_sum_of, value-union_of, IsRising-union_of}

-- ---- monomials in any order

-- the monomials put in order one by one
abbrev pub ordered : List (List ℕ) → List (List ℕ)
ordered [] = []
ordered (m ∷ ms) = exclusive_sum_of (m ∷ []) (ordered ms)

pub All-ordered : (P : List ℕ → Type 0) (p : List (List ℕ)) → AllByRecursion P p → AllByRecursion P (ordered p)
All-ordered P [] h = tt
All-ordered P (m ∷ ms) h = All-exclusive_sum_of P (m ∷ []) (ordered ms) (h.0, tt) (All-ordered P ms h.1)

pub IsPolynomial-none : IsPolynomial []
IsPolynomial-none = record { rising = tt; in_order = tt }

pub IsPolynomial-ordered : (p : List (List ℕ)) → AllByRecursion IsRising p → IsPolynomial (ordered p)
IsPolynomial-ordered [] h = IsPolynomial-none
IsPolynomial-ordered (m ∷ ms) h = IsPolynomial-exclusive_sum_of (m ∷ []) (ordered ms) (record { rising = (h.0, tt); in_order = (tt, tt) })
    (IsPolynomial-ordered ms h.1)

pub value-ordered : (x : ℕ → Bool) (p : List (List ℕ)) → value_of_polynomial x (ordered p) ≡ value_of_polynomial x p
value-ordered x [] = refl
value-ordered x (m ∷ ms) = value-exclusive_sum_of x (m ∷ []) (ordered ms) ∙ rw (value-ordered x ms, xor_nothing (value_of_monomial x m)) refl

-- ---- a monomial times a polynomial

All-keys : (P : ℕ → Type 0) (ps : List (Pair ℕ)) → AllByRecursion P (lefts ps) → AllByRecursion P (rights ps) → AllByRecursion P (map key_of ps)
All-keys P [] a b = tt
All-keys P (left i ∷ ps) a b = (a.0, All-keys P ps a.1 b)
All-keys P (right j ∷ ps) a b = (b.0, All-keys P ps a b.1)
All-keys P (both i j ∷ ps) a b = (a.0, All-keys P ps a.1 b.1)

pub All-union_of : (P : ℕ → Type 0) (m n : List ℕ) → AllByRecursion P m → AllByRecursion P n → AllByRecursion P (union_of m n)
All-union_of P m n a b =
    All-keys P (aligned nat_cmp m n)
    (subst (AllByRecursion P) (sym (lefts-aligned nat_cmp m n)) a)
    (subst (AllByRecursion P) (sym (rights-aligned nat_cmp m n)) b)

abbrev multiples : List ℕ → List (List ℕ) → List (List ℕ)
multiples m p = map (union_of m) p

value-multiples : (x : ℕ → Bool) (m : List ℕ) (p : List (List ℕ)) → value_of_polynomial x (multiples m p) ≡ (value_of_monomial x m && value_of_polynomial x p)
value-multiples x m [] = sym (and_nothing (value_of_monomial x m))
value-multiples x m (n ∷ ns) = rw (value-union_of x m n, value-multiples x m ns)
    (xor-and_right (value_of_monomial x n) (value_of_polynomial x ns) (value_of_monomial x m))

rising-multiples : (m : List ℕ) (p : List (List ℕ)) → IsRising m → AllByRecursion IsRising p → AllByRecursion IsRising (multiples m p)
rising-multiples m [] a b = tt
rising-multiples m (n ∷ ns) a b = (IsRising-union_of m n a b.0, rising-multiples m ns a b.1)

All-multiples : (P : ℕ → Type 0) (m : List ℕ) (p : List (List ℕ)) → AllByRecursion P m → AllByRecursion (AllByRecursion P) p
    → AllByRecursion (AllByRecursion P) (multiples m p)
All-multiples P m [] a b = tt
All-multiples P m (n ∷ ns) a b = (All-union_of P m n a b.0, All-multiples P m ns a b.1)

-- ---- products

abbrev pub product_of : List (List ℕ) → List (List ℕ) → List (List ℕ)
product_of [] q = []
product_of (m ∷ ms) q = exclusive_sum_of (ordered (multiples m q)) (product_of ms q)

pub value-product_of : (x : ℕ → Bool) (p q : List (List ℕ)) → value_of_polynomial x (product_of p q) ≡ (value_of_polynomial x p && value_of_polynomial x q)
value-product_of x [] q = refl
value-product_of x (m ∷ ms) q =
    value-exclusive_sum_of x (ordered (multiples m q)) (product_of ms q)
    ∙ rw (value-ordered x (multiples m q), value-multiples x m q, value-product_of x ms q)
    (xor-and_left (value_of_monomial x m) (value_of_polynomial x ms) (value_of_polynomial x q))

is_polynomial_of_rising : (p q : List (List ℕ)) → AllByRecursion IsRising p → AllByRecursion IsRising q → IsPolynomial (product_of p q)
is_polynomial_of_rising [] q a b = IsPolynomial-none
is_polynomial_of_rising (m ∷ ms) q a b =
    IsPolynomial-exclusive_sum_of (ordered (multiples m q)) (product_of ms q)
    (IsPolynomial-ordered (multiples m q) (rising-multiples m q a.0 b)) (is_polynomial_of_rising ms q a.1 b)

pub IsPolynomial-product_of : (p q : List (List ℕ)) → IsPolynomial p → IsPolynomial q → IsPolynomial (product_of p q)
IsPolynomial-product_of p q a b = is_polynomial_of_rising p q a.rising b.rising

pub All-product_of : (P : ℕ → Type 0) (p q : List (List ℕ)) → AllByRecursion (AllByRecursion P) p → AllByRecursion (AllByRecursion P) q
    → AllByRecursion (AllByRecursion P) (product_of p q)
All-product_of P [] q a b = tt
All-product_of P (m ∷ ms) q a b =
    All-exclusive_sum_of (AllByRecursion P) (ordered (multiples m q)) (product_of ms q)
    (All-ordered (AllByRecursion P) (multiples m q) (All-multiples P m q a.0 b)) (All-product_of P ms q a.1 b)

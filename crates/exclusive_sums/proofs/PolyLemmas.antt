-- What is left of a monomial at the end of the other, and sums of at most so many monomials.
use Rattle.std.proofs.Common.{◌≡◌, ◌⊎◌, ℕ, ◌≤◌, not, true, cond, leb, List, [], ◌∷◌, ◌++◌, length, map, drop, Option, Some, None, refl, sym, ap, ap₂, subst}
use Rattle.std.proofs.Common.{◌∙◌, inl, inr}
use Rattle.std.specs.Bool.{xor}
use Rattle.std.specs.Ordering.{nat_cmp}
use Rattle.std.proofs.lemmas.List.{append-nil}
use Rattle.std.proofs.Math.ListN.{drop_of_length-le}
use Rattle.revs_tape.specs.inside.Aligned.{right, aligned, alone, key_of}
use Rattle.revs_tape.specs.Polynomials.{value_of_polynomial, IsPolynomial, IsPolynomialOf}
use Rattle.revs_tape.specs.inside.Sums.{union_of, exclusive_sum_of}
use Rattle.list_facts.proofs.BitLemmas.{xor_one, xor_nothing}
use Rattle.revs_tape.proofs.SumLemmas.{value-exclusive_sum_of, IsPolynomial-exclusive_sum_of, IsPolynomial-one, IsPolynomial-input, value-input}
use Rattle.exclusive_sums.specs.Limits.{IsPolynomialUpTo}

-- ---- what is left of a monomial at the end of the other

keys-rights_only : (n : List ℕ) → map key_of (map right n) ≡ n
keys-rights_only [] = refl
keys-rights_only (j ∷ js) = ap (λ ks. j ∷ ks) (keys-rights_only js)

keys-lefts_only : (m : List ℕ) → map key_of (aligned nat_cmp m []) ≡ m
keys-lefts_only [] = refl
keys-lefts_only (i ∷ is) = ap (λ ks. i ∷ ks) (keys-lefts_only is)

pub union_left_over : (m n : List ℕ) (i j : ℕ) → (length m ≤ i) ⊎ (length n ≤ j) → union_of (drop i m) (drop j n) ≡ drop i m ++ drop j n
union_left_over m n i j (inl h) = rw (drop_of_length-le m h) (keys-rights_only (drop j n))
union_left_over m n i j (inr h) = rw (drop_of_length-le n h) (keys-lefts_only (drop i m) ∙ sym (append-nil (drop i m)))

-- ---- what is left of a sum at the end of the other

alone-rights_only : (q : List (List ℕ)) → alone (map right q) ≡ q
alone-rights_only [] = refl
alone-rights_only (n ∷ ns) = ap (λ ms. n ∷ ms) (alone-rights_only ns)

alone-lefts_only : (p : List (List ℕ)) → exclusive_sum_of p [] ≡ p
alone-lefts_only [] = refl
alone-lefts_only (m ∷ ms) = ap (λ ns. m ∷ ns) (alone-lefts_only ms)

pub sum_left_over : (p q : List (List ℕ)) (i j : ℕ) → (length p ≤ i) ⊎ (length q ≤ j) → exclusive_sum_of (drop i p) (drop j q) ≡ drop i p ++ drop j q
sum_left_over p q i j (inl h) = rw (drop_of_length-le p h) (alone-rights_only (drop j q))
sum_left_over p q i j (inr h) = rw (drop_of_length-le q h) (alone-lefts_only (drop i p) ∙ sym (append-nil (drop i p)))

-- ---- inputs

pub input_polynomial : (i : ℕ) (p : List (List ℕ)) → p ≡ (i ∷ []) ∷ [] → IsPolynomialOf (λ x. x i) p
input_polynomial i p e = record {
  is_polynomial = subst IsPolynomial (sym e) (IsPolynomial-input i);
  values = λ x. ap (value_of_polynomial x) e ∙ value-input x i;
}

-- ---- answers with a limit

pub up_to_from_sum : (most : ℕ) (p q : List (List ℕ)) (answer : Option (List (List ℕ))) → IsPolynomial p → IsPolynomial q
    → answer ≡ cond (leb (length (exclusive_sum_of p q)) most) (Some (exclusive_sum_of p q)) None
    → IsPolynomialUpTo most (λ x. xor (value_of_polynomial x p) (value_of_polynomial x q)) answer
up_to_from_sum most p q answer a b e = record {
  monomials = exclusive_sum_of p q;
  is_of = record { is_polynomial = IsPolynomial-exclusive_sum_of p q a b; values = λ x. value-exclusive_sum_of x p q };
  answers = e;
}

-- the negation is the sum with the constant 1
pub up_to_from_negation : (most : ℕ) (p : List (List ℕ)) (answer : Option (List (List ℕ))) → IsPolynomial p
    → answer ≡ cond (leb (length (exclusive_sum_of ([] ∷ []) p)) most) (Some (exclusive_sum_of ([] ∷ []) p)) None
    → IsPolynomialUpTo most (λ x. not (value_of_polynomial x p)) answer
up_to_from_negation most p answer a e = record {
  monomials = exclusive_sum_of ([] ∷ []) p;
  is_of = record {
    is_polynomial = IsPolynomial-exclusive_sum_of ([] ∷ []) p IsPolynomial-one a;
    values = λ x. value-exclusive_sum_of x ([] ∷ []) p ∙ rw (xor_nothing true) (xor_one (value_of_polynomial x p));
  };
  answers = e;
}

-- the sum of two lists that are known
pub sum_of_equal : {sum left right p q : List (List ℕ)} → sum ≡ exclusive_sum_of left right → left ≡ p → right ≡ q → sum ≡ exclusive_sum_of p q
sum_of_equal is l r = is ∙ ap₂ exclusive_sum_of l r

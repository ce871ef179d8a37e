-- Polynomials over the field of two elements: sums (by exclusive or) of monomials, each a product
-- (by and) of inputs. An assignment gives each input a bit.
use Rattle.std.specs.Prelude.{◌≡◌, ℕ, Bool, false, List, [], ◌∷◌, ⊤}
use Rattle.std.specs.Bool.{xor}
use Rattle.list_facts.specs.Lists.{IsRising}
use Rattle.std.specs.List.{AllByRecursion, list_all}
use Rattle.std.specs.Ordering.{nat_cmp}
use Rattle.std.specs.Cmp.Lexicographic.{slice_cmp}
use Rattle.std.specs.declared.cmp.Ordering.{Ordering}
use Rattle.std.specs.declared.cmp.Ordering.TheVariants.{Less}

-- ---- values

-- a monomial is 1 where all its inputs are; the monomial of no inputs is the constant 1
abbrev pub value_of_monomial : (ℕ → Bool) → List ℕ → Bool
value_of_monomial assignment monomial = list_all assignment monomial

abbrev pub value_of_polynomial : (ℕ → Bool) → List (List ℕ) → Bool
value_of_polynomial assignment [] = false
value_of_polynomial assignment (m ∷ ms) =
    xor (value_of_monomial assignment m) (value_of_polynomial assignment ms)

-- ---- sets as lists

-- each comes before all behind it
abbrev pub IsInOrder : {A : Type 0} → (A → A → Ordering) → List A → Type 0
IsInOrder cmp [] = ⊤
IsInOrder cmp (x ∷ xs) = AllByRecursion (λ y. cmp x y ≡ Less) xs × IsInOrder cmp xs

-- a set of monomials, each a set of inputs: rising lists in the dictionary's order
pub record IsPolynomial (monomials : List (List ℕ)) : Type 0 where
  pub rising : AllByRecursion IsRising monomials
  pub in_order : IsInOrder (slice_cmp nat_cmp) monomials

-- ---- the polynomial of a function

-- the one polynomial with the function's values
pub record IsPolynomialOf (function : (ℕ → Bool) → Bool) (monomials : List (List ℕ)) : Type 0 where
  pub is_polynomial : IsPolynomial monomials
  pub values : (assignment : ℕ → Bool)
      → value_of_polynomial assignment monomials ≡ function assignment

-- polynomials of equal values are equal
abbrev pub PolynomialsAreUnique : Type 0
PolynomialsAreUnique =
    (p q : List (List ℕ)) → IsPolynomial p → IsPolynomial q
    → ((x : ℕ → Bool) → value_of_polynomial x p ≡ value_of_polynomial x q) → p ≡ q

-- Polynomials of at most so many monomials, and how many these are.
use Rattle.std.specs.Prelude.{◌≡◌, ℕ, nat_le, Bool, if◌then◌else◌, List, length, Option, Some, None}
use Rattle.exclusive_sums.specs.declared.poly.TheConstants.{MOST_MONOMIALS}
use Rattle.revs_tape.specs.Polynomials.{IsPolynomialOf}

-- the function's polynomial, where it has at most so many monomials
pub record IsPolynomialUpTo (most : ℕ) (function : (ℕ → Bool) → Bool)
    (answer : Option (List (List ℕ))) : Type 0 where
  pub monomials : List (List ℕ)
  pub is_of : IsPolynomialOf function monomials
  pub answers : answer ≡ (if nat_le (length monomials) most then Some monomials else None)

-- the number of each limit
pub record LimitsAre : Type 0 where
  pub monomials : MOST_MONOMIALS ≡ 64

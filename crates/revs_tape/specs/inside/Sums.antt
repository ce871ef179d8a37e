-- Sums of polynomials and products of monomials, by going through two lists in order.
use Rattle.std.specs.Prelude.{ℕ, List, map}
use Rattle.std.specs.Ordering.{nat_cmp}
use Rattle.std.specs.Cmp.Lexicographic.{slice_cmp}
use Rattle.revs_tape.specs.inside.Aligned.{aligned, key_of, alone}

-- the product of two monomials: the inputs of one or the other
abbrev pub union_of : List ℕ → List ℕ → List ℕ
union_of m n = map key_of (aligned nat_cmp m n)

-- the sum of two polynomials: the monomials of one of them and not of the other
abbrev pub exclusive_sum_of : List (List ℕ) → List (List ℕ) → List (List ℕ)
exclusive_sum_of p q = alone (aligned (slice_cmp nat_cmp) p q)

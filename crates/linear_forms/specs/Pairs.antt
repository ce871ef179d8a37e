-- Pairs of factors over a basis: what they stand for where each member of the basis has a bit.
use Rattle.std.specs.Prelude.{◌≡◌, ℕ, ◌==◌, Bool, ◌&&◌, List}
use Rattle.std.specs.Bool.{xor}
use Rattle.std.specs.Int.{bit_at}
use Rattle.linear_forms.specs.Sums.{xor_below, xor_by}
use Rattle.linear_forms.specs.declared.pairs.Factor.{Factor}
use Rattle.linear_forms.specs.declared.pairs.Pair.{Pair}

-- the member at a place is in the set
abbrev pub is_in : ℕ → ℕ → Bool
is_in set place = bit_at set place == 1

-- ---- values, where each of so many members of the basis has a bit

abbrev pub factor_value : ℕ → (ℕ → Bool) → Factor → Bool
factor_value size value f = xor f.one (xor_below size (λ i. is_in f.set i && value i))

abbrev pub pair_value : ℕ → (ℕ → Bool) → Pair → Bool
pair_value size value p = factor_value size value p.first && factor_value size value p.second

-- the factor is the sum of the products, whatever the members of the basis are
abbrev pub IsSumOf : ℕ → List Pair → Factor → Type 0
IsSumOf size pairs sum =
    (value : ℕ → Bool) → xor_by (pair_value size value) pairs ≡ factor_value size value sum

-- ---- how often

-- how often the product of two members stands in the pairs, modulo 2
abbrev pub times : List Pair → ℕ → ℕ → Bool
times pairs i j = xor_by (λ (p : Pair). is_in p.first.set i && is_in p.second.set j) pairs

-- how often a member stands in a pair alone, where a product with itself is the member
abbrev pub alone_in : Pair → ℕ → Bool
alone_in p i =
    xor (is_in p.first.set i && is_in p.second.set i)
    (xor (p.first.one && is_in p.second.set i) (p.second.one && is_in p.first.set i))

-- What the loops over pairs count.
use Rattle.std.specs.Prelude.{ℕ, Bool, false, ◌&&◌}
use Rattle.std.specs.Bool.{xor}
use Rattle.linear_forms.specs.declared.pairs.Pair.{Pair}
use Rattle.linear_forms.specs.Pairs.{is_in}

-- the members stand in the pair in one order, and not in the other
abbrev pub exchanged_in : ℕ → Pair → ℕ → Bool
exchanged_in place p j =
    xor (is_in p.first.set place && is_in p.second.set j)
    (is_in p.first.set j && is_in p.second.set place)

abbrev pub both_ones : Pair → Bool
both_ones p = p.first.one && p.second.one

abbrev pub no_pair : Pair
no_pair =
    record { first = record { set = 0; one = false }; second = record { set = 0; one = false } }

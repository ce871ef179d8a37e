-- Products on lines that hold sets of bits: on which lines the factors are gathered, and the gates.
use Rattle.std.specs.Prelude.{ℕ, ◌==◌, Bool, true, false, not, ◌&&◌, List, [], ◌∷◌, ◌++◌, length, map, nat_lt, reverse, slice_index_or}
use Rattle.std.specs.List.{flat_map, list_all}
use Rattle.dependency_graph.specs.declared.node.Base.{Base}
use Rattle.bit_sums.specs.Bits.{apart}
use Rattle.bit_sums.specs.Sums.{ProductView}
use Rattle.mct_circuit.specs.Gates.{GateView, flip_of}
use Rattle.sum_toggles.specs.Toggles.{one_gates}

-- a factor on lines, whose sets together it is: all others are added to the one
pub record GatherView : Type 0 where
  pub on : ℕ
  pub others : List ℕ

-- the two factors of a product on lines
pub record PairView : Type 0 where
  pub first : GatherView
  pub second : GatherView

-- ---- sets on lines

-- the set of a line
abbrev pub set_at : List (List Base) → ℕ → List Base
set_at sets line = slice_index_or sets line []

-- a set, with the sets of these lines added
abbrev pub added : List (List Base) → List Base → List ℕ → List Base
added sets set [] = set
added sets set (line ∷ lines) = added sets (apart set (set_at sets line)) lines

-- the sets of all lines of a factor together
abbrev pub gathered : List (List Base) → GatherView → List Base
gathered sets g = added sets (set_at sets g.on) g.others

-- two sets are one: no bit stands in one of them alone
abbrev pub is_one : List Base → List Base → Bool
is_one a b = length (apart a b) == 0

-- ---- where a product can be added to a target

-- one of n lines, and not the target
abbrev pub is_free : ℕ → ℕ → ℕ → Bool
is_free n target line = nat_lt line n && not (line == target)

-- another one than the given line
abbrev pub is_other : ℕ → ℕ → Bool
is_other on line = not (line == on)

-- the lines of a factor are free, and the one is none of the others
abbrev pub is_placed : ℕ → ℕ → GatherView → Bool
is_placed n target g =
    is_free n target g.on
    && list_all (is_free n target) g.others
    && list_all (is_other g.on) g.others

-- both factors are, and the line of the first is none of the second's
abbrev pub are_placed : ℕ → ℕ → PairView → Bool
are_placed n target pair =
    is_placed n target pair.first
    && is_placed n target pair.second
    && is_other pair.first.on pair.second.on
    && list_all (is_other pair.first.on) pair.second.others

-- the lines hold the factors of the product
abbrev pub is_held : List (List Base) → PairView → ProductView → Bool
is_held sets pair p =
    is_one (gathered sets pair.first) p.first && is_one (gathered sets pair.second) p.second

abbrev pub fits : List (List Base) → ℕ → PairView → ProductView → Bool
fits sets target pair p = are_placed (length sets) target pair && is_held sets pair p

-- each pair of factors is that of a product, in order
abbrev pub all_fit : List (List Base) → ℕ → List PairView → List ProductView → Bool
all_fit sets target [] [] = true
all_fit sets target [] (p ∷ ps) = false
all_fit sets target (pair ∷ pairs) [] = false
all_fit sets target (pair ∷ pairs) (p ∷ ps) =
    fits sets target pair p && all_fit sets target pairs ps

-- ---- the gates

-- the others are added to the one
abbrev pub gather_gates : ℕ → List ℕ → List GateView
gather_gates on others = map (λ (line : ℕ). flip_of (line ∷ []) on) others

abbrev pub both_gates : PairView → List GateView
both_gates pair =
    gather_gates pair.first.on pair.first.others
    ++ gather_gates pair.second.on pair.second.others

-- a flip under the two lines, between the gathering and its reverse
abbrev pub pair_gates : ℕ → PairView → List GateView
pair_gates target pair =
    both_gates pair
    ++ flip_of (pair.first.on ∷ pair.second.on ∷ []) target ∷ []
    ++ reverse (both_gates pair)

-- those of all pairs, and a flip for the constant
abbrev pub toggle_gates : ℕ → List PairView → Bool → List GateView
toggle_gates target pairs one = flat_map (pair_gates target) pairs ++ one_gates target one

-- What the private functions on cubes compute, and a step of merging.
use Rattle.std.specs.Prelude.{ℕ, ◌+◌, ◌<◌, ◌≤◌, nat_lt, not, List, [], ◌∷◌, length, Option, Some, None, if◌then◌else◌}
use Rattle.std.specs.Ordering.{nat_cmp}
use Rattle.std.specs.declared.cmp.Ordering.{Ordering}
use Rattle.revs_tape.specs.inside.Aligned.{Pair, left, right, both}
use Rattle.exclusive_sums.specs.declared.cube.Literal.{Literal}
use Rattle.exclusive_sums.specs.Cubes.{same_sign, Merges, distance_at}

-- ---- two cubes

abbrev pub by_input : Literal → Literal → Ordering
by_input l m = nat_cmp l.input m.input

-- how many inputs differ in their states
abbrev pub differences : List (Pair Literal) → ℕ
differences [] = 0
differences (left l ∷ ps) = 1 + differences ps
differences (right m ∷ ps) = 1 + differences ps
differences (both l m ∷ ps) =
    (if same_sign l.positive m.positive then 0 else 1) + differences ps

abbrev pub flipped : Literal → Literal
flipped l = record { input = l.input; positive = not l.positive }

-- what stands in the joined cube for the lesser input of two literals, or for their one input
abbrev pub third_of : Literal → Literal → Option Literal
third_of l m =
    if nat_lt l.input m.input then Some (flipped l) else
    (if nat_lt m.input l.input then Some (flipped m) else
    (if same_sign l.positive m.positive then Some l else None))

-- the third state where the two cubes differ, their state elsewhere
abbrev pub thirds : List (Pair Literal) → List Literal
thirds [] = []
thirds (left l ∷ ps) = flipped l ∷ thirds ps
thirds (right m ∷ ps) = flipped m ∷ thirds ps
thirds (both l m ∷ ps) =
    if same_sign l.positive m.positive then l ∷ thirds ps else thirds ps

-- the first cube behind a place at distance 0 or 1 from the one there
pub record IsCloseBehind (cubes : List (List Literal)) (first second : ℕ) : Type 0 where
  pub ordered : first < second
  pub in_range : second < length cubes
  pub close : distance_at cubes first second ≤ 1
  pub between : (k : ℕ) → first < k → k < second → 1 < distance_at cubes first k

-- a step of merging, which leaves fewer cubes
pub record IsStep (old new : List (List Literal)) : Type 0 where
  pub merges : (last : List (List Literal)) → Merges new last → Merges old last
  pub fewer : length new < length old

-- Cubes are products of literals, and sums (by exclusive or) of cubes are merged while two of them
-- are at distance 0 or 1.
use Rattle.std.specs.Prelude.{◌≡◌, ℕ, ◌+◌, ◌<◌, ◌≤◌, ◌==◌, Bool, true, false, not, if◌then◌else◌, List, [], ◌∷◌, ◌++◌, length, map, Option, Some, None}
use Rattle.std.specs.Prelude.{slice_index_or}
use Rattle.std.specs.Bool.{beq, xor}
use Rattle.std.specs.List.{AllByRecursion, list_all, count_by, remove}
use Rattle.std.specs.Option.{is_none}
use Rattle.exclusive_sums.specs.declared.cube.Literal.{Literal}
use Rattle.list_facts.specs.Lists.{IsRising}
use Rattle.revs_tape.specs.Polynomials.{value_of_polynomial}
use Rattle.exclusive_sums.specs.Inputs.{StandsIn}

-- ---- values

-- a positive literal is its input, a negative one its input's negation
abbrev pub value_of_literal : (ℕ → Bool) → Literal → Bool
value_of_literal assignment literal =
    if literal.positive then assignment literal.input else not (assignment literal.input)

-- a cube is 1 where all its literals are
abbrev pub value_of_cube : (ℕ → Bool) → List Literal → Bool
value_of_cube assignment cube = list_all (value_of_literal assignment) cube

abbrev pub value_of_cubes : (ℕ → Bool) → List (List Literal) → Bool
value_of_cubes assignment [] = false
value_of_cubes assignment (c ∷ cs) = xor (value_of_cube assignment c) (value_of_cubes assignment cs)

-- ---- states and distance

-- the input of a literal
abbrev pub input_of : Literal → ℕ
input_of literal = literal.input

-- the inputs of the cube rise
abbrev pub IsCube : List Literal → Type 0
IsCube cube = IsRising (map input_of cube)

-- in a cube an input is absent, or present with a sign
abbrev pub state_of : List Literal → ℕ → Option Bool
state_of [] input = None
state_of (l ∷ ls) input =
    if l.input == input then Some l.positive else state_of ls input

-- both are positive, or both negative
abbrev pub same_sign : Bool → Bool → Bool
same_sign a b = beq a b

abbrev pub same_state : Option Bool → Option Bool → Bool
same_state None None = true
same_state None (Some b) = false
same_state (Some a) None = false
same_state (Some a) (Some b) = same_sign a b

-- how many inputs differ in their states: those that the first cube has and the second has not so,
-- and those that only the second has
abbrev pub distance_of : List Literal → List Literal → ℕ
distance_of c d =
    count_by (λ (l : Literal). not (same_state (Some l.positive) (state_of d l.input))) c
    + count_by (λ (l : Literal). is_none (state_of c l.input)) d

-- of the three states, the one that is neither of two different ones
abbrev pub third_state : Option Bool → Option Bool → Option Bool
third_state None None = None
third_state None (Some b) = Some (not b)
third_state (Some a) None = Some (not a)
third_state (Some a) (Some b) = None

-- the cube with the third state where the two differ, and with their state elsewhere
pub record IsJoined (c d joined : List Literal) : Type 0 where
  pub is_cube : IsCube joined
  pub states : (input : ℕ) → state_of joined input
      ≡ (if same_state (state_of c input) (state_of d input)
      then state_of c input
      else third_state (state_of c input) (state_of d input))

-- ---- merging

abbrev pub cube_at : List (List Literal) → ℕ → List Literal
cube_at cubes place = slice_index_or cubes place []

abbrev pub distance_at : List (List Literal) → ℕ → ℕ → ℕ
distance_at cubes i j = distance_of (cube_at cubes i) (cube_at cubes j)

-- no two are at distance 0 or 1
abbrev pub AreFarApart : List (List Literal) → Type 0
AreFarApart cubes = (i j : ℕ) → i < j → j < length cubes → 1 < distance_at cubes i j

-- the first pair at distance 0 or 1, by the least first place and then the least second place
pub record IsFirstClosePair (cubes : List (List Literal)) (i j : ℕ) : Type 0 where
  pub ordered : i < j
  pub in_range : j < length cubes
  pub close : distance_at cubes i j ≤ 1
  pub first : (k l : ℕ) → k < i → k < l → l < length cubes → 1 < distance_at cubes k l
  pub second : (l : ℕ) → i < l → l < j → 1 < distance_at cubes i l

-- the cubes at the two places are taken out
abbrev pub without_pair : List (List Literal) → ℕ → ℕ → List (List Literal)
without_pair cubes i j = remove (remove cubes j) i

-- The cubes are merged as long as there is a close pair: two equal cubes cancel, and two at
-- distance 1 become one at the end.
pub data Merges : List (List Literal) → List (List Literal) → Type 0 where
  done : (cubes : List (List Literal)) → AreFarApart cubes → Merges cubes cubes
  cancelled : (cubes last : List (List Literal)) (i j : ℕ)
      → IsFirstClosePair cubes i j → distance_at cubes i j ≡ 0
      → Merges (without_pair cubes i j) last → Merges cubes last
  joined : (cubes last : List (List Literal)) (i j : ℕ) (cube : List Literal)
      → IsFirstClosePair cubes i j → distance_at cubes i j ≡ 1
      → IsJoined (cube_at cubes i) (cube_at cubes j) cube
      → Merges (without_pair cubes i j ++ cube ∷ []) last → Merges cubes last

-- merging has one end
abbrev pub MergingIsDetermined : Type 0
MergingIsDetermined =
    (cubes a b : List (List Literal)) → Merges cubes a → Merges cubes b → a ≡ b

-- a monomial as a cube: its inputs as positive literals
abbrev pub positive : ℕ → Literal
positive input = record { input = input; positive = true }

abbrev pub cubes_of : List (List ℕ) → List (List Literal)
cubes_of monomials = map (map positive) monomials

-- ---- what merging keeps

-- The exclusive sum of the cubes is the polynomial, in at most as many cubes, over its inputs, and
-- no two cubes are equal or at distance 1.
pub record IsExclusiveSumOf (monomials : List (List ℕ)) (cubes : List (List Literal)) : Type 0 where
  pub values : (x : ℕ → Bool) → value_of_cubes x cubes ≡ value_of_polynomial x monomials
  pub few : length cubes ≤ length monomials
  pub are_cubes : AllByRecursion IsCube cubes
  pub over_inputs : AllByRecursion
      (AllByRecursion (λ (l : Literal). StandsIn monomials l.input)) cubes
  pub apart : AreFarApart cubes

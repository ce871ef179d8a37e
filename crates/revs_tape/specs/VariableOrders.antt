-- The order of the variables of a program, and the order that it gives the inputs.
use Rattle.std.specs.Prelude.{◌≡◌, ℕ, ◌+◌, ◌<◌, nat_lt, Bool, true, false, cond, List, [], ◌∷◌, ◌++◌, length, sum, flat_map}
use Rattle.std.specs.List.{AllByRecursion}
use Rattle.list_facts.specs.Bits.{bit_of}
use Rattle.list_facts.specs.Lists.{IsAmong, AreDifferent, below}

-- ---- the variables

-- the inputs at this place of each parameter that has it, where the first parameter's inputs begin
-- at a number
abbrev pub inputs_at : ℕ → ℕ → List ℕ → List ℕ
inputs_at place first [] = []
inputs_at place first (width ∷ rest) =
    cond (nat_lt place width)
    ((first + place) ∷ inputs_at place (first + width) rest)
    (inputs_at place (first + width) rest)

-- The order of the variables, as inputs: place 0 of every parameter in the order of the parameters,
-- then place 1 of every parameter that has one, and so on. No parameter has more places than there
-- are inputs.
abbrev pub variable_order : List ℕ → List ℕ
variable_order params = flat_map (λ place. inputs_at place 0 params) (below (sum params))

-- An order of n inputs: each of them stands in it exactly once, and nothing else does.
pub record IsOrderOf (n : ℕ) (order : List ℕ) : Type 0 where
  pub different : AreDifferent order
  pub inputs : AllByRecursion (λ i. i < n) order
  pub all : (i : ℕ) → i < n → IsAmong i order
  pub count : length order ≡ n

-- The law: each input stands exactly once in the order of the variables.
abbrev pub EachInputIsOneVariable : Type 0
EachInputIsOneVariable = (params : List ℕ) → IsOrderOf (sum params) (variable_order params)

-- ---- the inputs

-- One list of input bits comes before another: at the first variable at which they differ it has
-- false and the other true.
pub record IsBefore (order : List ℕ) (one other : List Bool) : Type 0 where
  pub before : List ℕ
  pub at : ℕ
  pub behind : List ℕ
  pub cut : order ≡ before ++ at ∷ behind
  pub same : AllByRecursion (λ i. bit_of one i ≡ bit_of other i) before
  pub low : bit_of one at ≡ false
  pub high : bit_of other at ≡ true

-- The variable of each input, and the inputs that an assignment of the variables gives.
use Rattle.std.specs.Prelude.{◌≡◌, ℕ, ◌<◌, Bool, List, length, map, slice_get, slice_index, Some}
use Rattle.list_facts.specs.Bits.{zeros}
use Rattle.list_facts.specs.Lists.{below}
use Rattle.revs_tape.specs.ClaimFunctions.{with_fixed}
use Rattle.decision_diagram.specs.Functions.{Assignment, Function}

-- the inputs at these first places of an order have these places
pub record AreVariables (inputs : ℕ) (order : List ℕ) (variables : List ℕ) : Type 0 where
  pub size : length variables ≡ inputs
  pub at : (i : ℕ) → i < inputs → slice_get order (slice_index variables i) ≡ Some i

-- the bits of n inputs, in an order of them, that an assignment of the variables gives
abbrev pub bits_at : ℕ → List ℕ → Assignment → List Bool
bits_at n order a = with_fixed order (map a (below n)) (zeros n)

-- a function of these bits, as a function of the variables
abbrev pub over : ℕ → List ℕ → (List Bool → Bool) → Function
over n order f a = f (bits_at n order a)

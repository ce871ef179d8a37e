-- The inputs of monomials.
use Rattle.std.specs.Prelude.{ℕ, List}
use Rattle.std.specs.List.{AllByRecursion}
use Rattle.list_facts.specs.Lists.{IsAmong, AnyByRecursion}

-- the input stands in one of the monomials
abbrev pub StandsIn : List (List ℕ) → ℕ → Type 0
StandsIn monomials input = AnyByRecursion (IsAmong input) monomials

-- each input of the monomials stands in one of the others
abbrev pub AreOverInputsOf : List (List ℕ) → List (List ℕ) → Type 0
AreOverInputsOf others monomials = AllByRecursion (AllByRecursion (StandsIn others)) monomials

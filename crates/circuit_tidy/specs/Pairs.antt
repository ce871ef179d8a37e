-- Cancelling pairs of flips.
use Rattle.std.specs.Prelude.{◌≡◌, true, List, ◌∷◌, ◌++◌}
use Rattle.std.specs.List.{AllByRecursion}
use Rattle.flip_lists.specs.declared.flip.Flip.{Flip}
use Rattle.flip_lists.specs.Flips.{are_alike, are_free}

-- two alike flips cancel where each flip between them is free of the first
pub record HasPair (flips : List Flip) : Type 0 where
  pub before : List Flip
  pub first : Flip
  pub between : List Flip
  pub second : Flip
  pub behind : List Flip
  pub cut : flips ≡ before ++ first ∷ (between ++ second ∷ behind)
  pub alike : are_alike first second ≡ true
  pub free : AllByRecursion (λ flip. are_free first flip ≡ true) between

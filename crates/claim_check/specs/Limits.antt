-- The limits of this crate, as numbers.
use Rattle.std.specs.Prelude.{◌≡◌}
use Rattle.claim_check.specs.Budgets.{most_cleaned}

-- a step of more monomials is not cleaned before the end
pub record LimitsAre : Type 0 where
  pub cleaned : most_cleaned ≡ 64

-- The limits of this crate, as numbers.
use Rattle.std.specs.Prelude.{◌≡◌}
use Rattle.decision_diagram.specs.declared.memo.TheConstants.{MOST_RESULTS}

pub record LimitsAre : Type 0 where
  pub results : MOST_RESULTS ≡ 1000000

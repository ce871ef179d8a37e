-- The limits as numbers.
use Rattle.std.specs.Prelude.{◌≡◌}
use Rattle.circuit_plans.specs.declared.plan.TheConstants.{MOST_LINES, MOST_GATES, MOST_BORROWED}

-- the number of each limit
pub record LimitsAre : Type 0 where
  pub lines : MOST_LINES ≡ 16384
  pub gates : MOST_GATES ≡ 4000000
  pub borrowed : MOST_BORROWED ≡ 64

-- The limits as numbers.
use Rattle.std.specs.Prelude.{◌≡◌}
use Rattle.revs_terms.specs.declared.limits.TheConstants.{MOST_LEVELS, MOST_DEPTH, MOST_WORK, MOST_RUN_WRITES, MOST_PLACES, MOST_NUMBER}

-- the number of each limit
pub record LimitsAre : Type 0 where
  pub levels : MOST_LEVELS ≡ 100
  pub depth : MOST_DEPTH ≡ 400
  pub work : MOST_WORK ≡ 16777216
  pub writes : MOST_RUN_WRITES ≡ 262144
  pub places : MOST_PLACES ≡ 4096
  pub number : MOST_NUMBER ≡ 9999

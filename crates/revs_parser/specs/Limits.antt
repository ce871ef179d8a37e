-- The limits as numbers.
use Rattle.std.specs.Prelude.{◌≡◌}
use Rattle.revs_parser.specs.declared.limits.TheConstants.{MOST_BYTES}

-- the number of each limit
pub record LimitsAre : Type 0 where
  pub bytes : MOST_BYTES ≡ 1048576

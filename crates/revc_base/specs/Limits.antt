-- The limits as numbers.
use Rattle.std.specs.Prelude.{◌≡◌}
use Rattle.revc_base.specs.declared.limits.TheConstants.{MOST_NAME_BYTES}

-- the number of each limit
pub record LimitsAre : Type 0 where
  pub name_bytes : MOST_NAME_BYTES ≡ 64

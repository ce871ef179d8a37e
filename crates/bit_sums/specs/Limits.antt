-- The limits of this crate, as numbers.
use Rattle.std.specs.Prelude.{◌≡◌}
use Rattle.bit_sums.specs.declared.growing.TheConstants.{MOST_JOINED}
use Rattle.bit_sums.specs.declared.limits.TheConstants.{MOST_FACTOR_BITS}

pub record LimitsAre : Type 0 where
  pub factor_bits : MOST_FACTOR_BITS ≡ 4
  pub joined : MOST_JOINED ≡ 64

-- The limits as numbers.
use Rattle.std.specs.Prelude.{◌≡◌}
use Rattle.arith_templates.specs.declared.limits.TheConstants.{MOST_BITS, MOST_FACTOR}

-- the number of each limit
pub record LimitsAre : Type 0 where
  pub bits : MOST_BITS ≡ 200
  pub factor : MOST_FACTOR ≡ 9999

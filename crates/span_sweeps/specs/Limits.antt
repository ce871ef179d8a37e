-- The limits of sweeps, as numbers.
use Rattle.std.specs.Prelude.{◌≡◌}
use Rattle.span_sweeps.specs.declared.search.TheConstants.{MOST_SWEPT, MOST_WORK, TURN}

-- The law: the most symbols that one sweep adds; and the most work that all sweeps of a search take
-- together, of which a turn counts so much beside its symbols.
pub record LimitsAre : Type 0 where
  pub swept : MOST_SWEPT ≡ 50000000
  pub work : MOST_WORK ≡ 250000000
  pub turn : TURN ≡ 16

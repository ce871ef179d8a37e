-- The limit of this crate, as a number.
use Rattle.std.specs.Prelude.{◌≡◌}
use Rattle.circuit_sim.specs.declared.rows.TheConstants.{MOST_ROWS}

pub record LimitsAre : Type 0 where
  pub rows : MOST_ROWS ≡ 1024

-- The limit of this crate, as a number.
use Rattle.std.specs.Prelude.{◌≡◌}
use Rattle.circuit_tidy.specs.declared.blocks.TheConstants.{MOST_BLOCK_LINES}

pub record LimitsAre : Type 0 where
  pub block_lines : MOST_BLOCK_LINES ≡ 64

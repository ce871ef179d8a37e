-- The limits as numbers.
use Rattle.std.specs.Prelude.{◌≡◌}
use Rattle.revs_tape.specs.declared.limits.TheConstants.{MOST_INPUTS, MOST_OUTPUTS, MOST_WRITES, MOST_CLAIMS}

-- the number of each limit
pub record LimitsAre : Type 0 where
  pub inputs : MOST_INPUTS ≡ 1024
  pub outputs : MOST_OUTPUTS ≡ 1024
  pub writes : MOST_WRITES ≡ 278528
  pub claims : MOST_CLAIMS ≡ 4096

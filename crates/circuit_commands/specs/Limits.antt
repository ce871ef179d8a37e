-- The limits of circuits, as numbers.
use Rattle.std.specs.Prelude.{◌≡◌}
use Rattle.circuit_commands.specs.declared.limits.TheConstants.{MOST_CIRCUIT_BYTES, MOST_TIDIED_GATES}

-- The law: the most bytes of a circuit text, and the most gates of one that is tidied.
pub record LimitsAre : Type 0 where
  pub circuit_bytes : MOST_CIRCUIT_BYTES ≡ 134217728
  pub tidied_gates : MOST_TIDIED_GATES ≡ 65536

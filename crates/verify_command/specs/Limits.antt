-- The limit of sources with a program and a circuit, as a number.
use Rattle.std.specs.Prelude.{◌≡◌, ◌+◌}
use Rattle.circuit_commands.specs.declared.limits.TheConstants.{MOST_CIRCUIT_BYTES}
use Rattle.revs_parser.specs.declared.limits.TheConstants.{MOST_BYTES}
use Rattle.verify_command.specs.declared.limits.TheConstants.{MOST_SOURCE_BYTES}

-- The law: the most bytes of a source are those of a program and of a circuit, and five of a
-- parting line.
pub record LimitsAre : Type 0 where
  pub source_bytes : MOST_SOURCE_BYTES ≡ 135266309
  pub parts : MOST_SOURCE_BYTES ≡ MOST_BYTES + MOST_CIRCUIT_BYTES + 5

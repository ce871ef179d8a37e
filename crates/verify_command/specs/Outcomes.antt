-- What the call of `verify` answers.
use Rattle.std.specs.Prelude.{ℕ, ◌≤◌, List, length}
use Rattle.circuit_commands.specs.declared.limits.TheConstants.{MOST_CIRCUIT_BYTES}
use Rattle.command_answers.specs.declared.fault.Fault.{Fault}
use Rattle.command_answers.specs.declared.fault.Fault.TheVariants.{Memory}
use Rattle.revc_words.specs.Words.{OrderView}
use Rattle.revs_parser.specs.declared.limits.TheConstants.{MOST_BYTES}
use Rattle.verify_command.specs.Verify.{HasParts, IsCause}

-- neither part of a source is too long
abbrev pub AreShort : List ℕ → List ℕ → Type 0
AreShort program circuit =
    (length program ≤ MOST_BYTES) × (length circuit ≤ MOST_CIRCUIT_BYTES)

-- why a source is not verified; memory is wanted only where it is parted, and no part is too long
abbrev pub IsVerifyingFault : OrderView → List ℕ → Fault → Type 0
IsVerifyingFault order source (Memory _) = HasParts source AreShort
IsVerifyingFault order source fault = IsCause order source fault

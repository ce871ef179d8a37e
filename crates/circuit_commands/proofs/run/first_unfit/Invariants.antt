use Rattle.std.proofs.Common.{map, take, string_bytes}
use Rattle.circuit_commands.specs.Run.{AreInputs}
use Rattle.circuit_commands.proofs.run.first_unfit.Given as goal

abbrev pub invariant-loop-place : goal.invariant-loop-place
invariant-loop-place l = AreInputs l.source (take l.place (map string_bytes l.words))

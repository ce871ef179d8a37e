use Rattle.std.proofs.Common.{take}
use Rattle.verify_command.proofs.PartingLemmas.{IsUnparted}
use Rattle.verify_command.proofs.parting.part.Given as goal

abbrev pub invariant-loop-place : goal.invariant-loop-place
invariant-loop-place l = IsUnparted (take l.place l.source) l.start

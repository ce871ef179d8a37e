use Rattle.std.proofs.Common.{◌≡◌, ◌++◌, drop}
use Rattle.circuit_commands.specs.Run.{kept}
use Rattle.circuit_commands.proofs.run.keep.Given as goal

abbrev pub invariant-loop-line : goal.invariant-loop-line
invariant-loop-line l = l.bits.items ++ kept (drop l.line l.garbage) (drop l.line l.lines) ≡ kept l.garbage l.lines

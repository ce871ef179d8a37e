use Rattle.std.proofs.Common.{◌≤◌, ◌-◌, length}
use Rattle.circuit_tidy.specs.inside.Walking.{IsPassed}
use Rattle.circuit_tidy.proofs.blocks.first_longer.Given as goal

abbrev pub invariant-walk : goal.invariant-walk
invariant-walk l = (l.start ≤ length l.flips) × IsPassed l.flips l.start

abbrev pub decreases-walk : goal.decreases-walk
decreases-walk l = length l.flips - l.start

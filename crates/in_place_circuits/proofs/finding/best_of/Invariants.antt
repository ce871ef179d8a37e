use Rattle.std.proofs.Common.{IfSome}
use Rattle.in_place_circuits.specs.Found.{IsFound}
use Rattle.in_place_circuits.proofs.finding.best_of.Given as goal

abbrev pub invariant-loop-flips : goal.invariant-loop-flips
invariant-loop-flips l = IfSome l.best (IsFound l.wanted.tape.now l.wanted.assumed l.wanted.budget.now)

use Rattle.std.proofs.Common.{take}
use Rattle.std.specs.List.{AllByRecursion}
use Rattle.revs_tape.specs.Tapes.{IsMet}
use Rattle.revs_tape.proofs.running.first_failing.Given as goal

abbrev pub invariant-loop-number : goal.invariant-loop-number
invariant-loop-number l = AllByRecursion (IsMet l.input l.written) (take l.number l.claims)

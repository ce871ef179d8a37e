use Rattle.std.proofs.Common.{length}
use Rattle.revs_parser.proofs.ProgramLemmas.{WithinLimits}
use Rattle.revs_parser.proofs.program.passed_at.Given as goal

abbrev pub invariant-loop-param : goal.invariant-loop-param
invariant-loop-param l = record { so_far : WithinLimits l.fn.params l.rest l.inputs }

abbrev pub decreases-loop-param : goal.decreases-loop-param
decreases-loop-param l = length l.rest

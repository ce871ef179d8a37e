use Rattle.std.proofs.Common.{length}
use Rattle.revs_lexer.specs.Rest.{left}
use Rattle.revs_parser.proofs.NumberLemmas.{StepsSoFar}
use Rattle.revs_parser.proofs.numbers.more_steps.Given as goal

abbrev pub invariant-loop-minus : goal.invariant-loop-minus
invariant-loop-minus l = record { read : StepsSoFar l.steps.items (left l.fn.tokens) (left l.rest) }

abbrev pub decreases-loop-minus : goal.decreases-loop-minus
decreases-loop-minus l = length (left l.rest)

use Rattle.std.proofs.Common.{length}
use Rattle.revs_lexer.specs.Rest.{left}
use Rattle.revs_parser.proofs.ProgramLemmas.{Parameters}
use Rattle.revs_parser.proofs.program.parameters.Given as goal

abbrev pub invariant-loop-params : goal.invariant-loop-params
invariant-loop-params l = record { read : Parameters l.fn.params.items l.params.items (left l.fn.tokens) (left l.rest) }

abbrev pub decreases-loop-params : goal.decreases-loop-params
decreases-loop-params l = length (left l.rest)

use Rattle.std.proofs.Common.{length}
use Rattle.revs_lexer.specs.Rest.{left}
use Rattle.revs_parser.proofs.ReadingLemmas.{Names}
use Rattle.revs_parser.proofs.expression.names_up_to.Given as goal

abbrev pub invariant-loop-names : goal.invariant-loop-names
invariant-loop-names l = record { read : Names l.fn.names.items l.names.items (left l.fn.tokens) (left l.rest) }

abbrev pub decreases-loop-names : goal.decreases-loop-names
decreases-loop-names l = length (left l.rest)

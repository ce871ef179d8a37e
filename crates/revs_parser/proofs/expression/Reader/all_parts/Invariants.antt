use Rattle.std.proofs.Common.{length}
use Rattle.revs_lexer.specs.Rest.{left}
use Rattle.revs_parser.proofs.ReadingLemmas.{Parts}
use Rattle.revs_parser.proofs.expression.Reader.all_parts.Given as goal

abbrev pub invariant-loop-at : goal.invariant-loop-at
invariant-loop-at l = record { read : Parts l.fn.self.profile l.parts.items (left l.fn.tokens) (left l.rest) }

abbrev pub decreases-loop-at : goal.decreases-loop-at
decreases-loop-at l = length (left l.rest)

use Rattle.revs_lexer.specs.Rest.{left}
use Rattle.revs_parser.proofs.TokenLemmas.{fixed_read, fixed_stops}
use Rattle.revs_parser.proofs.leaf.expect_fixed.Goals as goal

pub returns-in-Some-clause-ok : goal.returns-in-Some-clause-ok
returns-in-Some-clause-ok c = fixed_read c.args.fixed c.in-Some.ensures.found

pub returns-in-None-clause-halts : goal.returns-in-None-clause-halts
returns-in-None-clause-halts c = rw c.len.ensures (fixed_stops c.args.fixed (left c.args.tokens) c.in-None.ensures.none)

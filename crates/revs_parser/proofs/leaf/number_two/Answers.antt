use Rattle.revs_parser.proofs.TokenLemmas.{bare_two, other_two, no_number_two}
use Rattle.revs_parser.proofs.leaf.number_two.Goals as goal

pub returns-then-n-eq2-clause-ok : goal.returns-then-n-eq2-clause-ok
returns-then-n-eq2-clause-ok c = bare_two c.in-Some.n c.if-n-eq2.true c.in-Some.ensures.found

pub returns-else-n-eq2-clause-halts : goal.returns-else-n-eq2-clause-halts
returns-else-n-eq2-clause-halts c = rw c.len.ensures (other_two c.in-Some.ensures.found c.if-n-eq2.false)

pub returns-in-None-clause-halts : goal.returns-in-None-clause-halts
returns-in-None-clause-halts c = rw c.len-in-None.ensures (no_number_two _ c.in-None.ensures.none)

use Rattle.revs_parser.proofs.TokenLemmas.{a_number, no_number_stops}
use Rattle.revs_parser.proofs.leaf.number.Goals as goal

pub returns-in-Some-clause-ok : goal.returns-in-Some-clause-ok
returns-in-Some-clause-ok c = a_number c.in-Some.ensures.found

pub returns-in-None-clause-halts : goal.returns-in-None-clause-halts
returns-in-None-clause-halts c = rw c.len.ensures (no_number_stops _ c.in-None.ensures.none)

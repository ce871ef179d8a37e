use Rattle.revs_parser.proofs.TokenLemmas.{reads_name, name_stands, name_stops}
use Rattle.revs_parser.proofs.leaf.name.Goals as goal

pub returns-in_default-clause-halts : goal.returns-in_default-clause-halts
returns-in_default-clause-halts c = rw c.len.ensures (name_stops _ c.in_default.ensures.none)

pub returns-in_err-text-clause-memory : goal.returns-in_err-text-clause-memory
returns-in_err-text-clause-memory c = λ e. name_stands c.in-Some.ensures.found

pub returns-clause-ok : goal.returns-clause-ok
returns-clause-ok c = reads_name _ c.in-Some.ensures.found c.in_ok-text.ensures

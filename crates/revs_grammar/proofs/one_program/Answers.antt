use Rattle.revs_grammar.proofs.LeadsLemmas.{one_program}
use Rattle.revs_grammar.proofs.one_program.Goals as goal

pub returns : goal.returns
returns c = one_program

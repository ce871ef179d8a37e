use Rattle.revs_grammar.proofs.VerdictLemmas.{some_verdict, one_verdict}
use Rattle.revs_grammar.proofs.one_verdict.Goals as goal

pub returns : goal.returns
returns c = record { some = some_verdict; one = one_verdict }

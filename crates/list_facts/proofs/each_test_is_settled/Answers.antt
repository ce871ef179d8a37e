use Rattle.list_facts.proofs.SearchLemmas.{some_or_all}
use Rattle.list_facts.proofs.each_test_is_settled.Goals as goal

pub returns : goal.returns
returns c = some_or_all

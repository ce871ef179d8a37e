use Rattle.list_facts.proofs.OrderLemmas.{AreDifferent-rising}
use Rattle.list_facts.proofs.rising_are_different.Goals as goal

pub returns : goal.returns
returns c = AreDifferent-rising

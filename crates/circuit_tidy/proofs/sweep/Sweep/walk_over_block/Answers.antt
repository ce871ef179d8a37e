use Rattle.circuit_tidy.proofs.SweepLemmas.{leads_from_on}
use Rattle.circuit_tidy.proofs.sweep.Sweep.walk_over_block.Goals as goal

pub returns-in_ok-give_way-in-Some : goal.returns-in_ok-give_way-in-Some
returns-in_ok-give_way-in-Some c = leads_from_on c.args.self.now c.give_way.new.self c.in_ok-give_way-in-Some.ensures

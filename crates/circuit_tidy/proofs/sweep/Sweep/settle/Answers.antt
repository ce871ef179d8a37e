use Rattle.circuit_tidy.proofs.SweepLemmas.{leads_further}
use Rattle.circuit_tidy.proofs.sweep.Sweep.settle.Goals as goal

pub returns : goal.returns
returns c = leads_further c.args.self.now c.put_new.new.self c.meet_others.new.self c.in_ok-of_new.ensures c.in_ok-of_others.ensures

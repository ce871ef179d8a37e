use Rattle.circuit_tidy.proofs.SweepLemmas.{leads_further}
use Rattle.circuit_tidy.proofs.sweep.Sweep.put_next.Goals as goal

pub returns-in_ok-take_next-in-None : goal.returns-in_ok-take_next-in-None
returns-in_ok-take_next-in-None c =
    leads_further c.args.self.now c.cancel_new.new.self c.take_next.new.self c.in_ok-cancelled.ensures c.in_ok-take_next-in-None.ensures

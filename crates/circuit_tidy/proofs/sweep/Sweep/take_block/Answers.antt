use Rattle.circuit_tidy.proofs.SweepLemmas.{stays_leads, takes_stays}
use Rattle.circuit_tidy.proofs.sweep.Sweep.take_block.Goals as goal

pub returns : goal.returns
returns c =
    let stays = takes_stays c.args.count c.args.self.now c.take.new.self c.requires c.in_ok-take.ensures in
    stays_leads c.args.self.now _ (record { within = stays.within; long = stays.long; same = stays.same })

use Rattle.circuit_tidy.proofs.SweepLemmas.{leads_further, stays_leads}
use Rattle.circuit_tidy.proofs.sweep.Sweep.walk_on.Goals as goal

pub returns-then-known-gt0 : goal.returns-then-known-gt0
returns-then-known-gt0 c =
    leads_further c.args.self.now c.known_length-known.new.self c.take_block.new.self
    (stays_leads c.args.self.now c.known_length-known.new.self c.known_length-known.ensures.stays) c.in_ok-take_block.ensures

pub returns : goal.returns
returns c =
    leads_further c.args.self.now c.known_length-known.new.self c.walk_over_block.new.self
    (stays_leads c.args.self.now c.known_length-known.new.self c.known_length-known.ensures.stays) c.in_ok-walk_over_block.ensures

use Rattle.std.proofs.Common.{arith}
use Rattle.circuit_tidy.proofs.SweepLemmas.{stays_leads, takes_stays}
use Rattle.circuit_tidy.proofs.sweep.Sweep.take_next.Goals as goal

pub returns : goal.returns
returns c =
    stays_leads c.args.self.now c.take.new.self
    (takes_stays 1 c.args.self.now c.take.new.self
    (let within = c.requires in let size = c.len.ensures in let ok = c.args.self.now.flips.ok.0 in let other = c.if-self-len.false in omega arith)
    c.in_ok-take.ensures)

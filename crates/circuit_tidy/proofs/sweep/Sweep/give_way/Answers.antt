use Rattle.circuit_tidy.proofs.SweepLemmas.{leads_on_further, replaced_leads, stays_leads}
use Rattle.circuit_tidy.proofs.sweep.Sweep.give_way.Goals as goal

pub returns : goal.returns
returns c =
    let start = c.args.self.now in
    let replaced = c.replace.new.self in
    let back = c.go_back.new.self in
    let settled = c.settle.new.self in
    leads_on_further start settled c.go_back_to_block.new.self
    (leads_on_further start back settled
    (leads_on_further start replaced back
    (replaced_leads start replaced c.args.count c.args.shorter.now c.requires.within c.requires.longer c.in_ok-replace.ensures)
    (stays_leads replaced back c.go_back.ensures)) c.in_ok-least.ensures) (stays_leads settled c.go_back_to_block.new.self c.in_ok-go_back_to_block.ensures)

use Rattle.std.proofs.Common.{◌-◌, arith}
use Rattle.circuit_tidy.proofs.SweepLemmas.{same_contents, swept_at_last, swept_first, swept_further, takes_stays}
use Rattle.circuit_tidy.proofs.sweep.Sweep.walk_over_all.Goals as goal

pub loop-turn-init : goal.loop-turn-init
loop-turn-init c =
    let begun = c.args.self.now in
    let goes = c.in_ok-give_way.ensures in
    let stays = takes_stays c.args.first.now.start begun c.take.new.self
    (omega (arith, c.requires.begun.start, c.requires.longer.ordered, c.requires.longer.within)) c.in_ok-take.ensures in
    let same = same_contents begun.flips.items begun c.take.new.self c.requires.begun stays in
    (goes.within, swept_first begun.flips.items c.take.new.self c.give_way.new.self same goes)

pub loop-turn-preserved : goal.loop-turn-preserved
loop-turn-preserved c =
    let leads = c.in_ok-walk_on.ensures in
    (leads.within, swept_further c.args.self.now.flips.items c.loop-turn.self c.walk_on.new.self c.loop-turn.invariant.1 leads)

pub returns : goal.returns
returns c =
    let sweep = c.loop-turn.self in
    swept_at_last c.args.self.now.flips.items sweep c.take-2.new.self (c.len-2.result - sweep.at)
    (let within = c.loop-turn.invariant.0 in let size = c.len-2.ensures in let ok = sweep.flips.ok.0 in omega arith) c.loop-turn.invariant.1
    c.in_ok-take-2.ensures

use Rattle.std.proofs.Common.{◌-◌, arith}
use Rattle.gate_split.proofs.CountLemmas.{few_flips, four_flips, more_flips, no_flips, over_flips}
use Rattle.gate_split.proofs.counting.flip_count.Goals as goal

pub returns-then-controls-le2 : goal.returns-then-controls-le2
returns-then-controls-le2 c = few_flips c.args.lines c.args.controls c.args.around (omega (arith, c.if-controls-le2.true))

pub returns-then-controls-idle : goal.returns-then-controls-idle
returns-then-controls-idle c =
    over_flips c.args.lines c.args.controls c.args.around (c.args.lines - c.args.controls - 1) (omega (arith, c.if-controls-le2.false))
    (omega (arith, c.requires.fits)) (omega (arith, c.if-controls-idle.true, c.from.ensures))

pub returns-then-idle-eq0 : goal.returns-then-idle-eq0
returns-then-idle-eq0 c =
    no_flips c.args.lines c.args.controls c.args.around (c.args.lines - c.args.controls - 1) (omega (arith, c.if-controls-le2.false))
    (omega (arith, c.requires.fits)) (omega (arith, c.if-idle-eq0.true, c.from.ensures))

pub returns-then-controls-eq4 : goal.returns-then-controls-eq4
returns-then-controls-eq4 c =
    four_flips c.args.lines c.args.controls c.args.around (c.args.lines - c.args.controls - 1) (omega (arith, c.if-controls-le2.false))
    (omega (arith, c.requires.fits)) (omega (arith, c.if-controls-idle.false, c.from.ensures)) (omega (arith, c.if-idle-eq0.false, c.from.ensures))
    c.if-controls-eq4.true

pub returns : goal.returns
returns c =
    more_flips c.args.lines c.args.controls c.args.around (c.args.lines - c.args.controls - 1) (omega (arith, c.if-controls-le2.false))
    (omega (arith, c.requires.fits)) (omega (arith, c.if-controls-idle.false, c.from.ensures)) (omega (arith, c.if-idle-eq0.false, c.from.ensures))
    c.if-controls-eq4.false

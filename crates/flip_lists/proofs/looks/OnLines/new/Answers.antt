use Rattle.std.proofs.Common.{arith}
use Rattle.flip_lists.proofs.OnLineLemmas.{all_put}
use Rattle.flip_lists.proofs.looks.OnLines.new.Goals as goal

pub returns : goal.returns
returns c = all_put c.args.lines c.args.flips.now c.loop-place.place c.loop-place.on_lines c.loop-place.invariant (omega arith)

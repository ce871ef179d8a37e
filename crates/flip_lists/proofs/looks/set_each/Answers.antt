use Rattle.std.proofs.Common.{ap}
use Rattle.flip_lists.specs.Flips.{lines_in}
use Rattle.flip_lists.proofs.LookLemmas.{both_set}
use Rattle.flip_lists.proofs.looks.set_each.Goals as goal

pub returns-in-Two : goal.returns-in-Two
returns-in-Two c =
    rw (c.set-in-Two-2.ensures, c.set-in-Two.ensures)
    (both_set c.args.ends.now (lines_in c.args.lines) c.in-Two.first c.in-Two.second c.args.end (ap lines_in c.in-Two.is))

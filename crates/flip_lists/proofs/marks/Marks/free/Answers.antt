use Rattle.std.proofs.Common.{true, ◌∷◌}
use Rattle.flip_lists.specs.declared.marks.TheConstants.{FREED_CONTROL, FREED_TARGET}
use Rattle.flip_lists.specs.Flips.{controls_of}
use Rattle.flip_lists.specs.Marks.{noted}
use Rattle.flip_lists.proofs.MarkLemmas.{becomes_marked}
use Rattle.flip_lists.proofs.marks.Marks.free.Goals as goal

pub returns : goal.returns
returns c =
    becomes_marked c.args.self.now c.list.new.self c.add_lines.new.self (c.args.flip.target ∷ controls_of c.args.flip)
    (noted FREED_CONTROL FREED_TARGET true c.args.flip) c.in_ok-list.ensures c.add_lines.ensures

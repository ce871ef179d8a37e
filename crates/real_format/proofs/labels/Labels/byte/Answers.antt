use Rattle.real_format.specs.Header.{constant_byte, garbage_byte}
use Rattle.real_format.specs.inside.Labels.{constants_by, garbage_by}
use Rattle.revc_io.proofs.PieceLemmas.{mapped_at}
use Rattle.real_format.proofs.labels.Labels.byte.Goals as goal

pub returns-in-Constants : goal.returns-in-Constants
returns-in-Constants c =
    rw (c.in-Constants.is, c.constant_byte.ensures) (mapped_at constant_byte (constants_by c.args.self) c.args.line c.constant.result c.constant.ensures)

pub returns-in-Garbage : goal.returns-in-Garbage
returns-in-Garbage c =
    rw (c.in-Garbage.is, c.garbage_byte.ensures) (mapped_at garbage_byte (garbage_by c.args.self) c.args.line c.garbage.result c.garbage.ensures)

use Rattle.std.proofs.Common.{rules}
use Rattle.revs_tape.proofs.width.mark_operands.Goals as goal

pub returns-in-Xor-clause-marks : goal.returns-in-Xor-clause-marks
returns-in-Xor-clause-marks c = rw (c.mark-in-Xor.ensures.marks, c.mark.ensures.marks) (search rules)

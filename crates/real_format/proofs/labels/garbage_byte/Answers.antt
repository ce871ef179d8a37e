use Rattle.real_format.proofs.labels.garbage_byte.Goals as goal

pub returns-then-mark : goal.returns-then-mark
returns-then-mark c = rw c.if-mark.true

pub returns-else-mark : goal.returns-else-mark
returns-else-mark c = rw c.if-mark.false

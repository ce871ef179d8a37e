use Rattle.command_answers.proofs.digits.digit.Goals as goal

pub returns-then-bit : goal.returns-then-bit
returns-then-bit c = rw c.if-bit.true

pub returns-else-bit : goal.returns-else-bit
returns-else-bit c = rw c.if-bit.false

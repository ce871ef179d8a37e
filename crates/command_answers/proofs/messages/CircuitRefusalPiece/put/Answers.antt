use Rattle.command_answers.proofs.messages.CircuitRefusalPiece.put.Goals as goal

pub returns-in-TooLong-clause-bytes : goal.returns-in-TooLong-clause-bytes
returns-in-TooLong-clause-bytes g c = rw c.in-TooLong.is c.put.ensures.bytes

pub returns-in-Line-clause-bytes : goal.returns-in-Line-clause-bytes
returns-in-Line-clause-bytes g c = rw c.in-Line.is c.put-in-Line.ensures.bytes

pub returns-in-LineLimit-clause-bytes : goal.returns-in-LineLimit-clause-bytes
returns-in-LineLimit-clause-bytes g c = rw c.in-LineLimit.is c.put-in-LineLimit.ensures.bytes

pub returns-in-Token-clause-bytes : goal.returns-in-Token-clause-bytes
returns-in-Token-clause-bytes g c = rw c.in-Token.is c.put-in-Token.ensures.bytes

pub returns-in-TokenLimit-clause-bytes : goal.returns-in-TokenLimit-clause-bytes
returns-in-TokenLimit-clause-bytes g c = rw c.in-TokenLimit.is c.put-in-TokenLimit.ensures.bytes

use Rattle.program_texts.proofs.eval.bits_fault.Goals as goal

pub returns-in-BadDigit : goal.returns-in-BadDigit
returns-in-BadDigit c = rw c.in-BadDigit.is

use Rattle.program_texts.proofs.fault.TextFaultFromLexFault.from.Goals as goal

pub returns-in-BadByte : goal.returns-in-BadByte
returns-in-BadByte c = rw c.in-BadByte.is (λ text short refused. (short, refused (λ e. absurd cc)))

pub returns-in-LongName : goal.returns-in-LongName
returns-in-LongName c = rw c.in-LongName.is (λ text short refused. (short, refused (λ e. absurd cc)))

pub returns-in-LongNumber : goal.returns-in-LongNumber
returns-in-LongNumber c = rw c.in-LongNumber.is (λ text short refused. (short, refused (λ e. absurd cc)))

pub returns-in-Memory : goal.returns-in-Memory
returns-in-Memory c = rw c.in-Memory.is (λ text short refused. tt)

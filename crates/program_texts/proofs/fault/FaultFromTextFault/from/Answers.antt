use Rattle.program_texts.proofs.fault.FaultFromTextFault.from.Goals as goal

pub returns-in-Refused : goal.returns-in-Refused
returns-in-Refused c = rw c.in-Refused.is (λ text refused. refused)

pub returns-in-Memory : goal.returns-in-Memory
returns-in-Memory c = rw c.in-Memory.is (λ text refused. tt)

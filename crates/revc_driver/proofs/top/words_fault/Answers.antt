use Rattle.revc_driver.proofs.top.words_fault.Goals as goal

pub returns-in-Memory : goal.returns-in-Memory
returns-in-Memory c = rw c.in-Memory.is

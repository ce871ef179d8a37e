use Rattle.revc_driver.proofs.top.reading_fault.Goals as goal

pub returns-in-Failed : goal.returns-in-Failed
returns-in-Failed c = rw c.in-Failed.is

use Rattle.real_format.proofs.labels.start_of.Goals as goal

pub returns-in-Work : goal.returns-in-Work
returns-in-Work c = rw c.in-Work.is

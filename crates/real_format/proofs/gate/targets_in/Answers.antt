use Rattle.real_format.proofs.gate.targets_in.Goals as goal

pub returns-in-102 : goal.returns-in-102
returns-in-102 c = rw c.in-102.is

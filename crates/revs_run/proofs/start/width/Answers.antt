use Rattle.std.proofs.Common.{refl}
use Rattle.revs_run.proofs.start.width.Goals as goal

pub returns-in-None : goal.returns-in-None
returns-in-None c = rw c.in-None.is refl

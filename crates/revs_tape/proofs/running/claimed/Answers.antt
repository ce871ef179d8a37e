use Rattle.std.proofs.Common.{refl}
use Rattle.revs_tape.proofs.running.claimed.Goals as goal

pub returns-in-Clean : goal.returns-in-Clean
returns-in-Clean c = rw c.in-Clean.is refl

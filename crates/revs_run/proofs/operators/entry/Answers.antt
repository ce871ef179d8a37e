use Rattle.std.proofs.Common.{refl}
use Rattle.revs_run.proofs.operators.entry.Goals as goal

pub returns-in-Xor : goal.returns-in-Xor
returns-in-Xor c = rw c.in-Xor.is refl

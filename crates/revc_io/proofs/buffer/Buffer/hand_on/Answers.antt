use Rattle.std.proofs.Common.{refl}
use Rattle.revc_io.proofs.buffer.Buffer.hand_on.Goals as goal

pub returns-clause-empty : goal.returns-clause-empty
returns-clause-empty g c = refl

use Rattle.std.proofs.Common.{refl}
use Rattle.revc_io.proofs.buffer.Buffer.new.Goals as goal

pub returns : goal.returns
returns c = refl

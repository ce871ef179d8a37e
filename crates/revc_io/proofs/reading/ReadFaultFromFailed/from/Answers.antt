use Rattle.std.proofs.Common.{refl}
use Rattle.revc_io.proofs.reading.ReadFaultFromFailed.from.Goals as goal

pub returns : goal.returns
returns c = refl

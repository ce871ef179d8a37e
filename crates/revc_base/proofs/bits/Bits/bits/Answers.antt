use Rattle.std.proofs.Common.{rules}
use Rattle.revc_base.proofs.bits.Bits.bits.Goals as goal

pub returns : goal.returns
returns c = search rules

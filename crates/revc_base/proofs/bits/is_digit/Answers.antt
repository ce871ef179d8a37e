use Rattle.std.proofs.Common.{rules}
use Rattle.revc_base.proofs.bits.is_digit.Goals as goal

pub returns-else-byte-eq48 : goal.returns-else-byte-eq48
returns-else-byte-eq48 c = search rules

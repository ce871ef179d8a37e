use Rattle.std.proofs.Common.{rules}
use Rattle.revc_base.proofs.key.KeyPartialEq.eq.Goals as goal

pub returns : goal.returns
returns g c = search rules

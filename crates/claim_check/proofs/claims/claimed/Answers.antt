use Rattle.std.proofs.Common.{refl}
use Rattle.claim_check.proofs.claims.claimed.Goals as goal

pub returns-in-Assert : goal.returns-in-Assert
returns-in-Assert c = rw c.in-Assert.is refl

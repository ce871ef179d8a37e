use Rattle.std.proofs.Common.{refl}
use Rattle.claim_check.proofs.keeping.renumbered.Goals as goal

pub returns-in-Xor : goal.returns-in-Xor
returns-in-Xor c = rw (c.in-Xor.is, c.renumbered_base-in-Xor.ensures, c.renumbered_base-in-Xor-2.ensures) refl

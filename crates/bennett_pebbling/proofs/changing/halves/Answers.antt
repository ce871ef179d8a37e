use Rattle.std.proofs.Common.{arith}
use Rattle.bennett_pebbling.proofs.HalfLemmas.{halved}
use Rattle.bennett_pebbling.proofs.changing.halves.Goals as goal

pub returns : goal.returns
returns c = halved _ _ _ _ (record { less = omega arith; more = omega arith }) c.split_at.ensures.front c.split_at.ensures.back

use Rattle.std.proofs.Common.{refl}
use Rattle.revs_terms.proofs.cause.Cause.word.Goals as goal

pub returns-in-Slice : goal.returns-in-Slice
returns-in-Slice c = rw c.in-Slice.is refl

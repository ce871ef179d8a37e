use Rattle.std.proofs.Common.{refl}
use Rattle.exclusive_sums.proofs.cube.flipped.Goals as goal

pub returns : goal.returns
returns c = refl

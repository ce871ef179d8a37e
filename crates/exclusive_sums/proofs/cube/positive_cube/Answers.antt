use Rattle.std.proofs.Common.{sym, subst}
use Rattle.exclusive_sums.specs.Cubes.{IsCube}
use Rattle.exclusive_sums.proofs.CubeLemmas.{IsCube-positive}
use Rattle.exclusive_sums.proofs.cube.positive_cube.Goals as goal

pub invariant_of-result : goal.invariant_of-result
invariant_of-result c = subst IsCube (sym c.in_ok-literals.ensures) (IsCube-positive c.args.inputs.now c.requires)

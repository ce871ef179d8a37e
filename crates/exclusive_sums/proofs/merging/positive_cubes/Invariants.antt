use Rattle.std.proofs.Common.{◌≡◌, take}
use Rattle.exclusive_sums.specs.Cubes.{cubes_of}
use Rattle.exclusive_sums.proofs.merging.positive_cubes.Given as goal

abbrev pub invariant-loop-monomial : goal.invariant-loop-monomial
invariant-loop-monomial l = l.cubes.items ≡ cubes_of (take l.monomial-index l.monomials)

use Rattle.std.proofs.Common.{◌≡◌, ◌++◌, map, take}
use Rattle.exclusive_sums.specs.inside.Merging.{flipped}
use Rattle.exclusive_sums.proofs.cube.put_flipped.Given as goal

abbrev pub invariant-loop-literal : goal.invariant-loop-literal
invariant-loop-literal l = l.literals.items ≡ l.initial.literals.items ++ map flipped (take l.literal-index l.rest)

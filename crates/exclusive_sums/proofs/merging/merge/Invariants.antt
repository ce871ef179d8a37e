use Rattle.std.proofs.Common.{List, length}
use Rattle.exclusive_sums.specs.declared.cube.Literal.{Literal}
use Rattle.exclusive_sums.specs.Cubes.{Merges}
use Rattle.exclusive_sums.proofs.merging.merge.Given as goal

abbrev pub invariant-loop-first : goal.invariant-loop-first
invariant-loop-first l = (last : List (List Literal)) → Merges l.cubes.items last → Merges l.initial.cubes.items last

abbrev pub decreases-loop-first : goal.decreases-loop-first
decreases-loop-first l = length l.cubes.items

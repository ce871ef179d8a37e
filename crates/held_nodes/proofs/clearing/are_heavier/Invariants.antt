use Rattle.std.proofs.Common.{◌≡◌, ◌+◌, drop, sum_by}
use Rattle.held_nodes.specs.inside.Kept.{cube_weight}
use Rattle.held_nodes.proofs.clearing.are_heavier.Given as goal

abbrev pub invariant-loop-cube : goal.invariant-loop-cube
invariant-loop-cube l = l.left + sum_by cube_weight l.cubes ≡ l.room + sum_by cube_weight (drop l.cube-index l.cubes)

use Rattle.std.proofs.Common.{◌≡◌, ◌++◌, drop, take}
use Rattle.std.specs.List.{AllByRecursion}
use Rattle.exclusive_sums.specs.Cubes.{IsCube}
use Rattle.held_nodes.specs.Moves.{cube_flips}
use Rattle.held_nodes.proofs.clearing.put_cubes.Given as goal

abbrev pub invariant-loop-cube : goal.invariant-loop-cube
invariant-loop-cube l =
    (l.gates ≡ record l.initial.gates { gates = l.gates.gates })
    × (l.gates.gates ++ cube_flips l.first l.line (drop l.cube-index l.cubes) ≡ l.initial.gates.gates ++ cube_flips l.first l.line l.cubes)
    × AllByRecursion IsCube (take l.cube-index l.cubes)

use Rattle.std.proofs.Common.{◌≡◌, take}
use Rattle.circuit_sim.specs.Planes.{column}
use Rattle.circuit_sim.proofs.packing.store_row.Given as goal

abbrev pub invariant-loop-line : goal.invariant-loop-line
invariant-loop-line l = take l.line l.row ≡ take l.line (column l.place l.planes)

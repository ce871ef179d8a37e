use Rattle.circuit_sim.proofs.PackingLemmas.{IsPartlyWithRow}
use Rattle.circuit_sim.proofs.packing.load_row.Given as goal

abbrev pub invariant-loop-line : goal.invariant-loop-line
invariant-loop-line l = IsPartlyWithRow l.line l.place l.row l.fn.planes l.planes

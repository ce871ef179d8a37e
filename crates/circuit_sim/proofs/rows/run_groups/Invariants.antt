use Rattle.std.proofs.Common.{length, ◌-◌}
use Rattle.mct_circuit.specs.Gates.{line_map}
use Rattle.circuit_sim.specs.Rows.{AreRows, contents}
use Rattle.circuit_sim.specs.inside.Loaded.{IsRoom}
use Rattle.circuit_sim.proofs.RowLemmas.{IsPartlyChanged}
use Rattle.circuit_sim.proofs.rows.run_groups.Given as goal

abbrev pub invariant-groups : goal.invariant-groups
invariant-groups l = record {
  rows : IsPartlyChanged (line_map l.circuit.gates) l.start (contents l.fn.rows) (contents l.rows);
  fit : AreRows l.circuit.lines l.rows;
  room : IsRoom l.circuit.lines l.room;
}

abbrev pub decreases-groups : goal.decreases-groups
decreases-groups l = length l.initial.rows - l.start

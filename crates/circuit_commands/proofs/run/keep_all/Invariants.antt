use Rattle.std.proofs.Common.{◌≡◌, map, take}
use Rattle.circuit_sim.specs.Rows.{contents}
use Rattle.circuit_commands.specs.Run.{kept}
use Rattle.circuit_commands.proofs.run.keep_all.Given as goal

abbrev pub invariant-loop-row : goal.invariant-loop-row
invariant-loop-row l = l.lines.items ≡ map (kept l.garbage) (take l.row-index (contents l.rows))

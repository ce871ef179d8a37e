use Rattle.program_commands.proofs.planning.lay.Goals as goal

pub returns-in-Ok-clause-ok : goal.returns-in-Ok-clause-ok
returns-in-Ok-clause-ok c = record {
  is = rw c.new-budget.ensures at c.in-Ok.ensures.ok;
  chosen = rw c.new-budget.ensures at c.in-Ok.ensures.chosen;
  sum_of = c.circuit.ensures.lines;
  on = rw c.circuit.ensures.circuit at c.lines.ensures.gates;
  narrow = c.circuit.ensures.narrow;
}

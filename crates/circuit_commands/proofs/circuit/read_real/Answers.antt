use Rattle.circuit_commands.proofs.CircuitLemmas.{means_real, refused_real}
use Rattle.circuit_commands.proofs.circuit.read_real.Goals as goal

pub returns-in-Ok-clause-ok : goal.returns-in-Ok-clause-ok
returns-in-Ok-clause-ok c = means_real c.args.text.now c.in-Ok.file _ c.requires c.in-Ok.ensures.ok c.of_real.ensures

pub returns-in-Err-clause-err : goal.returns-in-Err-clause-err
returns-in-Err-clause-err c = rw c.real_fault.ensures (refused_real c.args.text.now c.in-Err.fault c.requires c.in-Err.ensures.err)

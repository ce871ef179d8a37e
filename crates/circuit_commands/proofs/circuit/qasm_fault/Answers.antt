use Rattle.circuit_commands.proofs.circuit.qasm_fault.Goals as goal

pub returns-in-Limit : goal.returns-in-Limit
returns-in-Limit c = rw c.in-Limit.is

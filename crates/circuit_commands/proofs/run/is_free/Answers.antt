use Rattle.circuit_commands.proofs.run.is_free.Goals as goal

pub returns-in-Free : goal.returns-in-Free
returns-in-Free c = rw c.in-Free.is

use Rattle.command_answers.proofs.fault.Fault.status.Goals as goal

pub returns-in-Gates : goal.returns-in-Gates
returns-in-Gates c = rw c.in-Gates.is

use Rattle.command_answers.proofs.fault.FaultKind.text.Goals as goal

pub returns-in-Nesting : goal.returns-in-Nesting
returns-in-Nesting c = rw c.in-Nesting.is

use Rattle.plan_choice.proofs.copied.keeps_law.Goals as goal

pub returns-in-Ok : goal.returns-in-Ok
returns-in-Ok c = rw c.in-Ok.is c.is_small.ensures

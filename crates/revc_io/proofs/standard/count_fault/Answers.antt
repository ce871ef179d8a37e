use Rattle.revc_io.proofs.standard.count_fault.Goals as goal

pub returns-clause-after : goal.returns-clause-after
returns-clause-after c = c.saturating_add.ensures

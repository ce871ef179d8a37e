use Rattle.qasm_format.proofs.names.Declared.has.Goals as goal

pub returns : goal.returns
returns c = rw (← c.self.view_is) c.has.ensures

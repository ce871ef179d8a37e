use Rattle.held_nodes.proofs.FinishLemmas.{done_of, done_can}
use Rattle.held_nodes.proofs.forward.Forward.copies.Goals as goal

pub copies_of-requires-clause-can : goal.copies_of-requires-clause-can
copies_of-requires-clause-can c =
    let done = done_of _ _ _ _ c.self.view_is c.self.invariant c.requires in
    rw (c.inputs.ensures.inputs, c.outputs-outputs.ensures.outputs, c.deref.ensures.value) (done_can _ _ _ done)

pub returns-clause-ok : goal.returns-clause-ok
returns-clause-ok c =
    rw (← c.self.view_is) (rw (c.inputs.ensures.inputs, c.outputs-outputs.ensures.outputs, c.deref.ensures.value) at c.in_ok-copies.ensures)

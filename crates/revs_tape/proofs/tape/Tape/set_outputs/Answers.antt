use Rattle.revs_tape.proofs.TapeLemmas.{tape_outputs}
use Rattle.revs_tape.proofs.tape.Tape.set_outputs.Goals as goal

pub invariant_of-self : goal.invariant_of-self
invariant_of-self c =
    let known = rw (← c.self.view_is) at c.requires.known in
    (tape_outputs _ c.args.outputs.items c.self.invariant.0 known c.requires.few, c.self.invariant.1)

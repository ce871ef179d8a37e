use Rattle.revs_tape.proofs.TapeLemmas.{tape_claim}
use Rattle.revs_tape.proofs.tape.Tape.claim.Goals as goal

pub invariant_of-self-2 : goal.invariant_of-self-2
invariant_of-self-2 c =
    let known = rw (← c.self.view_is) at c.requires.known in
    let room = rw (← c.self.view_is) at c.requires.room in
    (rw c.in_ok-push.ensures.items (tape_claim _ _ c.self.invariant.0 known room), c.self.invariant.1)

use Rattle.std.proofs.Common.{rules}
use Rattle.revs_tape.proofs.TapeLemmas.{tape_push}
use Rattle.revs_tape.proofs.tape.Tape.push.Goals as goal

pub invariant_of-self-2 : goal.invariant_of-self-2
invariant_of-self-2 c =
    let known = rw (← c.self.view_is) at c.requires.known in
    let room = rw (← c.self.view_is) at c.requires.room in
    (rw c.in_ok-push.ensures.items (tape_push _ c.args.entry c.self.invariant.0 known room), c.self.invariant.1)

pub returns-clause-ok : goal.returns-clause-ok
returns-clause-ok c = rw (c.len.ensures, ← c.self.view_is) (search rules)

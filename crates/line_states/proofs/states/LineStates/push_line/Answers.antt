use Rattle.std.proofs.Common.{arith}
use Rattle.line_states.proofs.StateLemmas.{widened}
use Rattle.line_states.proofs.states.LineStates.push_line.Goals as goal

pub invariant_of-self-2 : goal.invariant_of-self-2
invariant_of-self-2 c =
    rw (c.in_ok-push.ensures.items, c.new-2.ensures, c.new.ensures.items) (widened _ c.self.invariant
    (omega (arith, c.if-lines-borrow.false, c.len-lines.ensures, c.borrow.ensures.borrow, c.lines.ensures.lines)))

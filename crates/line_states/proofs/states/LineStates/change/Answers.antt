use Rattle.std.proofs.Common.{arith}
use Rattle.line_states.proofs.StateLemmas.{changed}
use Rattle.line_states.proofs.states.LineStates.change.Goals as goal

pub invariant_of-self-2 : goal.invariant_of-self-2
invariant_of-self-2 c =
    let moves = rw (← c.self.view_is) at c.requires in
    rw (c.new.ensures, c.in_ok-append.ensures.items)
    (changed _ c.args.line c.args.set.items c.args.more.items c.self.invariant moves
    (omega (arith, c.if-gates-len.false, c.gates.ensures.gates, c.len.ensures, c.len-2.ensures, c.self.invariant.limited)))

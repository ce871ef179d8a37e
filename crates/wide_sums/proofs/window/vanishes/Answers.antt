use Rattle.std.proofs.Common.{arith, below_more}
use Rattle.wide_sums.proofs.RowLemmas.{vanishes_always}
use Rattle.wide_sums.proofs.window.vanishes.Goals as goal

pub loop-turn-preserved : goal.loop-turn-preserved
loop-turn-preserved c = below_more _ c.loop-turn.turn c.loop-turn.invariant (c.in_ok-vanishes_in.ensures c.if-not-branch.false)

pub returns : goal.returns
returns c = λ yes.
    vanishes_always _ _ _ _ (rw c.as_slice-sums.ensures.value at c.turns-turn-end.ensures) (λ turn low. c.loop-turn.invariant turn (omega
    (arith, low, c.loop-turn-test.false)))

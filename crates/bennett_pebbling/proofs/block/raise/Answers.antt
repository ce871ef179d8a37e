use Rattle.std.proofs.Common.{rules, ◌≡◌, ℕ, ◌+◌, suc, not, ◌&&◌, length, subst, arith}
use Rattle.list_facts.specs.Bits.{bit_of}
use Rattle.held_nodes.specs.Held.{is_held}
use Rattle.bennett_pebbling.proofs.RaiseLemmas.{IsRaising, raising_can, raising_done, raising_failed, raising_more}
use Rattle.bennett_pebbling.proofs.block.raise.Goals as goal
use Rattle.bennett_pebbling.proofs.block.raise.Goals.{After-toggle_if}
use Rattle.revc_base.proofs.ResultLemmas.{passes_on}

turn : (c : After-toggle_if) → c.if-marked.toggle_if
    ≡ (bit_of c.args.marks.now c.loop-k.k && not (is_held c.loop-k.forward.lines (c.args.lo + c.loop-k.k)))
turn c = search rules

pub toggle_if-requires-clause-can : goal.toggle_if-requires-clause-can
toggle_if-requires-clause-can c =
    let k = c.loop-k.k in
    let turn : c.if-marked.toggle_if ≡ (bit_of c.args.marks.now k && not (is_held c.loop-k.forward.lines (c.args.lo + k))) = search rules in
    raising_can c.args.forward c.args.lo c.args.marks.now k c.loop-k.forward c.loop-k.invariant c.loop-k-test.true _
    turn c.requires.ready c.requires.closed (search rules)

pub returns-in_err-forward-clause-refused : goal.returns-in_err-forward-clause-refused
returns-in_err-forward-clause-refused c =
    passes_on _ c.from_residual.result c.from_residual.ensures.1
    (raising_failed c.args.forward c.args.lo c.args.marks.now c.loop-k.k c.loop-k.forward c.loop-k.invariant c.loop-k-test.true _
    (turn (goal.at.returns-in_err-forward-clause-refused c).After-toggle_if) c.in_err-forward.field-0.0 c.in_err-forward.ensures.refused)

pub loop-k-preserved : goal.loop-k-preserved
loop-k-preserved c =
    let step : suc c.loop-k.k ≡ c.loop-k.k + 1 = omega arith in
    subst (λ (n : ℕ). IsRaising c.args.forward c.args.lo c.args.marks.now n c.in_ok-forward.forward) step
    (raising_more c.args.forward c.args.lo c.args.marks.now c.loop-k.k c.loop-k.forward c.loop-k.invariant c.loop-k-test.true _
    (turn (goal.at.loop-k-preserved c).After-toggle_if) c.in_ok-forward.forward c.in_ok-forward.ensures.keeps c.in_ok-forward.ensures.turned)

pub returns-clause-raised : goal.returns-clause-raised
returns-clause-raised c =
    let end : c.loop-k.k ≡ length c.args.marks.now = omega (arith, c.loop-k-test.false, c.loop-k.auto.k-end) in
    raising_done c.args.forward c.args.lo c.args.marks.now c.loop-k.forward
    (subst (λ (n : ℕ). IsRaising c.args.forward c.args.lo c.args.marks.now n c.loop-k.forward) end c.loop-k.invariant)

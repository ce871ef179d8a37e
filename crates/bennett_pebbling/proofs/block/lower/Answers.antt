use Rattle.std.proofs.Common.{rules, ◌≡◌, ℕ, ◌+◌, ◌-◌, not, ◌&&◌, subst, arith}
use Rattle.list_facts.specs.Bits.{bit_of}
use Rattle.held_nodes.specs.Held.{is_held}
use Rattle.bennett_pebbling.proofs.LowerLemmas.{IsLowering, lowering_begun, lowering_can, lowering_done, lowering_failed, lowering_more}
use Rattle.bennett_pebbling.proofs.block.lower.Goals as goal
use Rattle.bennett_pebbling.proofs.block.lower.Goals.{After-toggle_if}
use Rattle.revc_base.proofs.ResultLemmas.{passes_on}

turn : (c : After-toggle_if) → c.if-held.toggle_if
    ≡ (is_held c.loop-k.forward.lines (c.args.lo + (c.loop-k.k - 1)) && not (bit_of c.args.wanted.now (c.loop-k.k - 1)))
turn c = search rules

below : (c : After-toggle_if) → (c.loop-k.k - 1) + 1 ≡ c.loop-k.k
below c = omega (arith, c.loop-k-test.true)

pub toggle_if-requires-clause-can : goal.toggle_if-requires-clause-can
toggle_if-requires-clause-can c =
    let k = c.loop-k.k - 1 in
    let below : k + 1 ≡ c.loop-k.k = omega (arith, c.loop-k-test.true) in
    let turn : c.if-held.toggle_if ≡ (is_held c.loop-k.forward.lines (c.args.lo + k) && not (bit_of c.args.wanted.now k)) = search rules in
    lowering_can c.args.forward c.args.lo c.args.wanted.now c.loop-k.k k below c.loop-k.forward c.loop-k.invariant
    c.loop-k.auto.k c.requires.can _ turn (search rules)

pub returns-in_err-forward-clause-refused : goal.returns-in_err-forward-clause-refused
returns-in_err-forward-clause-refused c =
    let there = (goal.at.returns-in_err-forward-clause-refused c).After-toggle_if in
    passes_on _ c.from_residual.result c.from_residual.ensures.1
    (lowering_failed c.args.forward c.args.lo c.args.wanted.now c.loop-k.k (c.loop-k.k - 1) (below there) c.loop-k.forward c.loop-k.invariant
    c.loop-k.auto.k c.requires.can _ (turn there) c.in_err-forward.field-0.0 c.in_err-forward.ensures.refused)

pub loop-k-preserved : goal.loop-k-preserved
loop-k-preserved c =
    let there = (goal.at.loop-k-preserved c).After-toggle_if in
    lowering_more c.args.forward c.args.lo c.args.wanted.now c.loop-k.k (c.loop-k.k - 1) (below there) c.loop-k.forward c.loop-k.invariant
    c.loop-k.auto.k c.requires.can _ (turn there) c.in_ok-forward.forward c.in_ok-forward.ensures.keeps c.in_ok-forward.ensures.turned

pub loop-k-init : goal.loop-k-init
loop-k-init c = lowering_begun c.args.forward c.args.lo c.args.wanted.now c.requires.keeps

pub returns-clause-lowered : goal.returns-clause-lowered
returns-clause-lowered c =
    let end : c.loop-k.k ≡ 0 = omega (arith, c.loop-k-test.false) in
    lowering_done c.args.forward c.args.lo c.args.wanted.now c.loop-k.forward
    (subst (λ (n : ℕ). IsLowering c.args.forward c.args.lo c.args.wanted.now n c.loop-k.forward) end c.loop-k.invariant)

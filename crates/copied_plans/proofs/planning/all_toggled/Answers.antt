use Rattle.std.proofs.Common.{◌≡◌, ℕ, ◌<◌, length, subst, arith}
use Rattle.revc_base.proofs.ResultLemmas.{passes_on}
use Rattle.copied_plans.proofs.StraightLemmas.{IsHeldTo, can_finish, can_toggle, done, held_more, toggle_fault}
use Rattle.copied_plans.proofs.planning.all_toggled.Goals as goal

pub toggle-requires : goal.toggle-requires
toggle-requires c =
    let low : c.loop-node.node < length c.args.graph.now.nodes = omega (arith, c.loop-node-test.true, c.nodes-node-end.ensures.nodes) in
    can_toggle c.args.graph.now c.args.budget.now c.loop-node.node c.loop-node.forward c.loop-node.invariant low

pub returns-in_err-forward-2-clause-memory : goal.returns-in_err-forward-2-clause-memory
returns-in_err-forward-2-clause-memory c =
    let low : c.loop-node.node < length c.args.graph.now.nodes = omega (arith, c.loop-node-test.true, c.nodes-node-end.ensures.nodes) in
    passes_on _ c.from_residual-in_err-forward-2.result c.from_residual-in_err-forward-2.ensures.1
    (toggle_fault c.args.graph.now c.args.budget.now c.loop-node.node c.loop-node.forward c.loop-node.invariant c.in_err-forward-2.field-0.0 low c.requires
    c.in_err-forward-2.ensures.refused)

pub loop-node-preserved : goal.loop-node-preserved
loop-node-preserved c =
    let low : c.loop-node.node < length c.args.graph.now.nodes = omega (arith, c.loop-node-test.true, c.nodes-node-end.ensures.nodes) in
    held_more c.args.graph.now c.args.budget.now c.loop-node.node c.loop-node.forward c.loop-node.invariant c.in_ok-forward-2.forward
    c.in_ok-forward-2.ensures.keeps low c.in_ok-forward-2.ensures.ok

pub finish-requires : goal.finish-requires
finish-requires c =
    let s = c.args.graph.now in let b = c.args.budget.now in
    let end : c.loop-node.node ≡ length s.nodes = omega (arith, c.loop-node-test.false, c.loop-node.auto.node-end, c.nodes-node-end.ensures.nodes) in
    can_finish s b c.loop-node.forward (subst (λ (n : ℕ). IsHeldTo s b n c.loop-node.forward) end c.loop-node.invariant)

pub returns-clause-ok : goal.returns-clause-ok
returns-clause-ok c =
    let s = c.args.graph.now in let b = c.args.budget.now in
    let end : c.loop-node.node ≡ length s.nodes = omega (arith, c.loop-node-test.false, c.loop-node.auto.node-end, c.nodes-node-end.ensures.nodes) in
    done s b c.loop-node.forward (subst (λ (n : ℕ). IsHeldTo s b n c.loop-node.forward) end c.loop-node.invariant) c.finish.result c.finish.ensures.ok
    c.finish.ensures.ports c.finish.ensures.clean c.finish.ensures.within

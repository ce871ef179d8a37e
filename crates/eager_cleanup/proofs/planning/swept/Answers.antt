use Rattle.std.proofs.Common.{rules, [], ◌+◌, ◌<◌, length, subst, sym}
use Rattle.circuit_plans.specs.Plans.{BudgetView}
use Rattle.revc_base.proofs.ResultLemmas.{passes_on}
use Rattle.eager_cleanup.specs.inside.Sweeps.{IsMade, IsSwept}
use Rattle.eager_cleanup.proofs.BoundLemmas.{has_port_lines, next_fault, next_ready}
use Rattle.eager_cleanup.proofs.SweepLemmas.{swept_toggled}
use Rattle.eager_cleanup.proofs.planning.swept.Goals as goal

pub returns-in_err-inputs-clause-refused : goal.returns-in_err-inputs-clause-refused
returns-in_err-inputs-clause-refused c =
    passes_on _ c.from_residual.result c.from_residual.ensures.1 (has_port_lines _ _ _ _ _ c.requires.begun)

pub toggle-requires : goal.toggle-requires
toggle-requires c =
    let inside : c.loop-node.node < length c.args.graph.now.nodes = search rules in
    next_ready c.args.graph.now c.args.forward.budget c.loop-node.node c.loop-node.forward c.loop-node.invariant.0 inside

pub returns-in_err-toggled-clause-refused : goal.returns-in_err-toggled-clause-refused
returns-in_err-toggled-clause-refused c =
    let inside : c.loop-node.node < length c.args.graph.now.nodes = search rules in
    passes_on _ c.from_residual-in_err-toggled.result c.from_residual-in_err-toggled.ensures.1
    (next_fault c.args.graph.now c.args.forward.budget c.loop-node.node c.loop-node.forward _ c.loop-node.invariant.0 inside
    c.in_err-toggled.ensures.refused)

pub clean_operands-requires-clause-values : goal.clean_operands-requires-clause-values
clean_operands-requires-clause-values c = rw c.deref.ensures.value c.loop-node.invariant.1

pub clean_operands-requires-clause-made : goal.clean_operands-requires-clause-made
clean_operands-requires-clause-made c =
    let s = c.args.graph.now in let next = c.in_ok-toggled.toggled in
    let inside : c.loop-node.node < length s.nodes = search rules in
    let made = swept_toggled s c.args.forward.budget c.loop-node.node c.loop-node.forward next c.loop-node.invariant.0 inside
    c.in_ok-toggled.ensures.keeps c.in_ok-toggled.ensures.ok in
    subst (λ (b : BudgetView). IsMade s b c.loop-node.node next) (sym made.swept.budget) made

pub returns-in_err-forward-clause-refused : goal.returns-in_err-forward-clause-refused
returns-in_err-forward-clause-refused c =
    let s = c.args.graph.now in
    let inside : c.loop-node.node < length s.nodes = search rules in
    let made = swept_toggled s c.args.forward.budget c.loop-node.node c.loop-node.forward c.in_ok-toggled.toggled c.loop-node.invariant.0 inside
    c.in_ok-toggled.ensures.keeps c.in_ok-toggled.ensures.ok in
    passes_on _ c.from_residual-in_err-forward.result c.from_residual-in_err-forward.ensures.1
    (rw made.swept.budget at c.in_err-forward.ensures.refused)

pub returns-in_err-add_value-clause-refused : goal.returns-in_err-add_value-clause-refused
returns-in_err-add_value-clause-refused c = passes_on _ c.from_residual-in_err-add_value.result c.from_residual-in_err-add_value.ensures.1
    (has_port_lines _ _ _ _ _ c.loop-node.invariant.0)

pub loop-node-preserved : goal.loop-node-preserved
loop-node-preserved c =
    let s = c.args.graph.now in
    let inside : c.loop-node.node < length s.nodes = search rules in
    let made = swept_toggled s c.args.forward.budget c.loop-node.node c.loop-node.forward c.in_ok-toggled.toggled c.loop-node.invariant.0 inside
    c.in_ok-toggled.ensures.keeps c.in_ok-toggled.ensures.ok in (
      subst (λ (b : BudgetView). IsSwept s b (c.loop-node.node + 1) [] c.in_ok-forward.forward) made.swept.budget c.in_ok-forward.ensures.swept,
      c.in_ok-add_value.ensures,
    )

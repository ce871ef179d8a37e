use Rattle.std.proofs.Common.{◌≡◌, ap, subst}
use Rattle.std.proofs.lemmas.Result.{IfErr-weaker, IfOk-weaker}
use Rattle.claim_check.specs.Settled.{settled_outputs}
use Rattle.sum_graph.specs.Graphs.{SumGraphView, sum_outputs}
use Rattle.circuit_plans.specs.declared.roles.Start.TheVariants.{Any}
use Rattle.circuit_plans.specs.Plans.{AddsOutputs, BudgetView, roles_of_plan}
use Rattle.held_nodes.specs.Held.{ForwardView}
use Rattle.held_nodes.specs.Moves.{IsFinishFault, planned_of}
use Rattle.eager_cleanup.specs.Eager.{IsEagerFault, IsWithinEager}
use Rattle.eager_cleanup.proofs.PlanLemmas.{finish_fault, finished_within, outputs_ready, plain_clean}
use Rattle.eager_cleanup.proofs.planning.plan.Goals as goal

pub finish-requires : goal.finish-requires
finish-requires c = outputs_ready _ _ _ c.in_ok-forward-2.ensures.swept

pub returns-clause-clean : goal.returns-clause-clean
returns-clause-clean c =
    let s = c.args.graph.now in
    let f = c.in_ok-forward-2.forward in
    let same = c.in_ok-forward-2.ensures.swept.graph in
    IfOk-weaker c.finish.result (λ planned. AddsOutputs Any (roles_of_plan planned) planned.circuit.gates (sum_outputs f.graph))
    (λ planned. AddsOutputs Any (roles_of_plan planned) planned.circuit.gates (settled_outputs s))
    (λ planned clean. plain_clean s (roles_of_plan planned) planned.circuit.gates
    (subst (λ (g : SumGraphView). AddsOutputs Any (roles_of_plan planned) planned.circuit.gates (sum_outputs g)) same clean))
    c.finish.ensures.clean

pub returns-clause-few : goal.returns-clause-few
returns-clause-few c =
    let s = c.args.graph.now in
    let f = c.in_ok-forward-2.forward in
    let swept = c.in_ok-forward-2.ensures.swept in
    IfOk-weaker c.finish.result (λ planned. planned ≡ planned_of f) (IsWithinEager s)
    (λ planned is. finished_within s c.in_ok-forward.forward.budget f planned swept is) c.finish.ensures.ok

pub returns-clause-refused : goal.returns-clause-refused
returns-clause-refused c =
    let s = c.args.graph.now in
    let f = c.in_ok-forward-2.forward in
    let swept = c.in_ok-forward-2.ensures.swept in
    let budget = ap (λ (g : ForwardView). g.budget) c.in_ok-forward.ensures.ok in
    IfErr-weaker c.finish.result (IsFinishFault f) (IsEagerFault s c.args.budget.now)
    (λ fault is. subst (λ (b : BudgetView). IsEagerFault s b fault) budget
    (finish_fault s c.in_ok-forward.forward.budget f fault swept is)) c.finish.ensures.refused

use Rattle.std.proofs.Common.{rules}
use Rattle.std.proofs.lemmas.Result.{IfErr-weaker}
use Rattle.held_nodes.specs.Moves.{IsFinishFault}
use Rattle.held_nodes.proofs.NarrowLemmas.{narrow_plan}
use Rattle.bennett_pebbling.specs.Pebbling.{HasFewProducts, HasLineEach, IsPebblingFault, IsWithinBlock}
use Rattle.bennett_pebbling.proofs.PlanLemmas.{IsBegun, begun, begun_can, finish_refused, of_finished}
use Rattle.bennett_pebbling.proofs.PlanLemmas.{plan_few, plan_lines, plan_narrow, plan_products, plan_ready, rise_refused}
use Rattle.bennett_pebbling.proofs.planning.plan.Goals as goal
use Rattle.revc_base.proofs.ResultLemmas.{passes_on}
use Rattle.bennett_pebbling.proofs.planning.plan.Goals.{After-deref}

begin : (c : After-deref) → IsBegun c.args.graph.now c.args.budget.now c.in_ok-forward.forward c.deref.result.now
begin c =
    begun c.args.graph.now c.args.budget.now c.in_ok-forward.forward c.deref.result.now c.in_ok-outputs.outputs.items c.in_ok-forward.ensures.ok
    c.in_ok-forward.ensures.keeps c.deref.ensures.value c.in_ok-outputs.ensures

pub finish-requires : goal.finish-requires
finish-requires c =
    let s = c.args.graph.now in let b = c.args.budget.now in let start = c.in_ok-forward.forward in let outputs = c.deref.result.now in
    let is = begin (goal.at.finish-requires c).After-deref in
    plan_ready s b c.args.block start outputs c.requires is c.in_ok-forward-2.forward c.in_ok-forward-2.ensures.risen

pub rise-requires-clause-can : goal.rise-requires-clause-can
rise-requires-clause-can c =
    let s = c.args.graph.now in let b = c.args.budget.now in let start = c.in_ok-forward.forward in let outputs = c.deref.result.now in
    let is = begin (goal.at.rise-requires-clause-can c).After-deref in
    begun_can s b start outputs is

pub returns-in_err-forward-2-clause-refused : goal.returns-in_err-forward-2-clause-refused
returns-in_err-forward-2-clause-refused c =
    let s = c.args.graph.now in let b = c.args.budget.now in let start = c.in_ok-forward.forward in let outputs = c.deref.result.now in
    let is = begin (goal.at.returns-in_err-forward-2-clause-refused c).After-deref in
    passes_on _ c.from_residual-in_err-forward-2.result c.from_residual-in_err-forward-2.ensures.1
    (rise_refused s b c.args.block start outputs c.requires is c.in_err-forward-2.field-0.0 c.in_err-forward-2.ensures.refused)

pub returns : goal.returns
returns c =
    let s = c.args.graph.now in let b = c.args.budget.now in let start = c.in_ok-forward.forward in let outputs = c.deref.result.now in
    let is = begin (goal.at.returns c).After-deref in
    let f = c.in_ok-forward-2.forward in
    let risen = c.in_ok-forward-2.ensures.risen in
    record {
      plan = narrow_plan s b f c.finish.result c.finish.ensures.ok (plan_narrow s b c.args.block start outputs c.requires is f risen)
          (search rules) (search rules) (search rules);
      few = of_finished c.finish.result f (IsWithinBlock s c.args.block) c.finish.ensures.ok c.finish.ensures.weighs
          (plan_few s b c.args.block start outputs c.requires is f risen);
      lines = of_finished c.finish.result f (HasLineEach s) c.finish.ensures.ok c.finish.ensures.weighs
          (λ weighs. plan_lines s b c.args.block start outputs c.requires is f risen);
      products = of_finished c.finish.result f (HasFewProducts s c.args.block) c.finish.ensures.ok c.finish.ensures.weighs
          (λ weighs. plan_products s b c.args.block start outputs c.requires is f risen);
      refused = IfErr-weaker c.finish.result (IsFinishFault f) (IsPebblingFault s c.args.block b)
          (finish_refused s b c.args.block start outputs c.requires is f risen) c.finish.ensures.refused;
    }

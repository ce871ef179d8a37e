use Rattle.std.proofs.Common.{refl, subst, sym}
use Rattle.sum_graph.specs.Graphs.{SumGraphView}
use Rattle.copied_plans.specs.inside.Straight.{IsStraightPlan, StraightFits}
use Rattle.copied_plans.proofs.PlanLemmas.{copied_plan, row_is_room}
use Rattle.copied_plans.proofs.planning.plan.Goals as goal

pub straight_plan-requires : goal.straight_plan-requires
straight_plan-requires c =
    let b = c.args.budget.now in
    subst (λ (g : SumGraphView). StraightFits g b) (sym c.in_ok-copied.ensures.copied)
    (row_is_room c.args.graph.now b (c.if-not-fits.ensures.fits.0 refl))

pub returns : goal.returns
returns c =
    let s = c.args.graph.now in let b = c.args.budget.now in let p = c.in_ok-straight_plan.field-0 in
    copied_plan s b p c.in_ok-copied.ensures.settled (subst (λ (g : SumGraphView). IsStraightPlan g b p) c.in_ok-copied.ensures.copied
    c.in_ok-straight_plan.ensures)

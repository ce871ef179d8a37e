use Rattle.std.proofs.lemmas.Result.{IfOk-weaker}
use Rattle.gate_split.proofs.RoomyFlipLemmas.{roomy_flips}
use Rattle.plan_choice.proofs.SplitLemmas.{laid_eager, laid_for}
use Rattle.plan_choice.proofs.laying.lay_eager.Goals as goal

pub returns-clause-eager : goal.returns-clause-eager
returns-clause-eager c =
    let e = c.in_ok-planned.ensures in
    IfOk-weaker c.lay.result _ _ (λ laid is. laid_eager c.args.graph.now c.args.budget.now c.in_ok-planned.planned laid
    roomy_flips e.roomy e.few is)
    c.lay.ensures.ok

pub returns-clause-ok : goal.returns-clause-ok
returns-clause-ok c =
    let e = c.in_ok-planned.ensures in
    IfOk-weaker c.lay.result _ _
    (λ laid is. laid_for c.args.graph.now c.args.budget.now c.in_ok-planned.planned laid e.ports e.clean is) c.lay.ensures.ok

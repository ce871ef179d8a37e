use Rattle.std.proofs.lemmas.Result.{IfOk-weaker}
use Rattle.plan_choice.specs.inside.Tried.{IsLaidAsIs, IsLaidOf}
use Rattle.held_nodes.proofs.PlaceLemmas.{narrow_roomy}
use Rattle.gate_split.proofs.PieceLemmas.{stay}
use Rattle.plan_choice.proofs.SplitLemmas.{as_is, narrow_refused}
use Rattle.plan_choice.proofs.laying.lay_narrow.Goals as goal

pub lay-requires-clause-roomy : goal.lay-requires-clause-roomy
lay-requires-clause-roomy c = narrow_roomy _ _ c.requires.narrow (rw c.circuit.ensures.circuit at c.lines.ensures.gates)

pub returns-clause-ok : goal.returns-clause-ok
returns-clause-ok c =
    let p = c.args.planned in let b = c.args.budget.now in
    IfOk-weaker c.lay.result (IsLaidOf p b) (IsLaidAsIs p b) (λ laid is. as_is b p laid stay c.requires.narrow c.requires.within is)
    c.lay.ensures.ok

pub returns-clause-memory : goal.returns-clause-memory
returns-clause-memory c =
    narrow_refused c.args.planned c.args.budget.now c.lay.result c.requires.narrow c.requires.within c.lay.ensures.refused

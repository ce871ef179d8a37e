use Rattle.std.proofs.Common.{◌∙◌, subst, sym}
use Rattle.std.proofs.lemmas.Result.{IfOk-weaker}
use Rattle.sum_graph.specs.Graphs.{IsLeanOf, IsSumGraph}
use Rattle.sum_graph.proofs.LeanLemmas.{IsDone, done}
use Rattle.sum_graph.proofs.graph.SumGraph.lean.Goals as goal
use Rattle.sum_graph.proofs.graph.SumGraph.lean.Goals.{After-inputs}

is_done : (c : goal.After-inputs)
    → IsDone c.args.graph.now (record { inputs = c.inputs.result; nodes = c.in_ok-nodes.nodes.items; outputs = c.in_ok-outputs.outputs.items })
is_done c =
    done c.args.graph.now c.in_ok-walk.walk.graph.now c.walk.new.self.graph.now _ _ _ _ c.walk.new.self.nodes.keys _ _ _ c.in_ok-walk.ensures.graph
    c.walk.ensures.graph c.inputs.ensures.inputs (c.in_ok-nodes.ensures ∙ c.outputs.ensures.nodes)
    c.in_ok-walk-2.ensures.walked c.in_ok-outputs.ensures.ended

pub new-requires : goal.new-requires
new-requires c = (is_done (goal.at.new-requires c).After-inputs).keeps

pub returns-clause-lean : goal.returns-clause-lean
returns-clause-lean c =
    let lean = (is_done (goal.at.returns-clause-lean c).After-inputs).lean in
    IfOk-weaker c.new.result _ _ (λ graph is. subst (IsLeanOf c.args.graph.now) (sym is) lean) c.new.ensures

pub returns-clause-keeps : goal.returns-clause-keeps
returns-clause-keeps c =
    IfOk-weaker c.new.result _ _ (λ graph is. subst IsSumGraph (sym is) (is_done (goal.at.returns-clause-keeps c).After-inputs).keeps) c.new.ensures

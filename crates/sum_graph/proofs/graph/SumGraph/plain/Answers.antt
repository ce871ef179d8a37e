use Rattle.std.proofs.Common.{◌∙◌, refl, subst, sym}
use Rattle.std.proofs.lemmas.Result.{IfOk-weaker}
use Rattle.sum_graph.specs.Graphs.{IsSumGraph}
use Rattle.sum_graph.proofs.PlainLemmas.{plain_keeps}
use Rattle.sum_graph.proofs.graph.SumGraph.plain.Goals as goal

pub returns-clause-plain : goal.returns-clause-plain
returns-clause-plain c =
    let outputs = rw c.outputs.ensures.outputs at c.in_ok-outputs.ensures in
    IfOk-weaker c.new.result _ _ (λ graph is. is ∙ rw (c.inputs.ensures.inputs, c.in_ok-nodes.ensures, outputs) refl) c.new.ensures

pub new-requires : goal.new-requires
new-requires c =
    let outputs = rw c.outputs.ensures.outputs at c.in_ok-outputs.ensures in
    rw (c.inputs.ensures.inputs, c.in_ok-nodes.ensures, outputs) (plain_keeps c.args.graph.now c.outputs.ensures.settled)

pub returns-clause-keeps : goal.returns-clause-keeps
returns-clause-keeps c =
    IfOk-weaker c.new.result _ _ (λ graph is. subst IsSumGraph (sym is) (plain_keeps c.args.graph.now c.outputs.ensures.settled))
    (returns-clause-plain c)

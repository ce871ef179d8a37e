use Rattle.std.proofs.Common.{◌∙◌, refl}
use Rattle.std.proofs.lemmas.Result.{IfOk-weaker}
use Rattle.copied_plans.proofs.CopiedLemmas.{copied_keeps}
use Rattle.copied_plans.proofs.GraphLemmas.{few_outputs}
use Rattle.copied_plans.proofs.copying.copied_graph.Goals as goal

pub copied_outputs-requires : goal.copied_outputs-requires
copied_outputs-requires c = rw c.outputs.ensures.outputs (few_outputs c.args.graph.now c.outputs.ensures.settled)

pub new-requires : goal.new-requires
new-requires c =
    let outputs = rw c.outputs.ensures.outputs at c.in_ok-outputs.ensures in
    rw (c.inputs.ensures.inputs, c.in_ok-nodes.ensures, outputs) (copied_keeps c.args.graph.now c.outputs.ensures.settled c.requires)

pub returns-clause-copied : goal.returns-clause-copied
returns-clause-copied c =
    let outputs = rw c.outputs.ensures.outputs at c.in_ok-outputs.ensures in
    IfOk-weaker c.new.result _ _ (λ graph is. is ∙ rw (c.inputs.ensures.inputs, c.in_ok-nodes.ensures, outputs) refl) c.new.ensures

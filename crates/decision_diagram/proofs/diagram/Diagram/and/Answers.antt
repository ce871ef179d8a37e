use Rattle.decision_diagram.specs.Diagrams.{function_of}
use Rattle.decision_diagram.proofs.FlipLemmas.{flip_is_and}
use Rattle.decision_diagram.proofs.GrowthLemmas.{computes_same}
use Rattle.decision_diagram.proofs.diagram.Diagram.and.Goals as goal

pub returns : goal.returns
returns c =
    let nodes = c.args.self.now.nodes in
    let is = flip_is_and _ (function_of nodes c.args.f) (function_of nodes c.args.g) c.truth-never.ensures.stands.same in
    computes_same _ _ _ _ c.flip.result is c.flip.ensures

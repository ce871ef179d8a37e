use Rattle.std.proofs.Common.{ap, sym, ◌∙◌}
use Rattle.decision_diagram.specs.Diagrams.{DiagramView}
use Rattle.decision_diagram.proofs.DistinctLemmas.{first-constant}
use Rattle.decision_diagram.proofs.RestrictionLemmas.{small_from}
use Rattle.decision_diagram.proofs.diagram.Diagram.first.Goals as goal

pub returns-else-is_inner : goal.returns-else-is_inner
returns-else-is_inner c =
    let d = c.args.self.now in
    ap (λ (e : DiagramView). e.vars) c.self.view_is
    ∙ sym (first-constant d.vars d.nodes c.args.f (small_from c.is_inner.result c.args.f c.is_inner.ensures c.if-is_inner.false))

use Rattle.std.proofs.Common.{subst}
use Rattle.decision_diagram.specs.Diagrams.{DiagramView, IsCanonical}
use Rattle.decision_diagram.proofs.RestrictionLemmas.{inner_varies, constant_is, small_from}
use Rattle.decision_diagram.proofs.diagram.Diagram.constant.Goals as goal

pub returns-then-is_inner-clause-none : goal.returns-then-is_inner-clause-none
returns-then-is_inner-clause-none c =
    let d = c.args.self.now in
    let canonical = subst (λ (e : DiagramView). IsCanonical e) c.self.view_is c.self.invariant in
    inner_varies d.vars d.nodes canonical.ordered c.args.f (c.is_inner.ensures.0 c.if-is_inner.true) c.requires

pub returns-else-is_inner-clause-some : goal.returns-else-is_inner-clause-some
returns-else-is_inner-clause-some c =
    constant_is c.args.self.now.nodes c.args.f c.truth.result c.eq.result
    (small_from c.is_inner.result c.args.f c.is_inner.ensures c.if-is_inner.false) c.truth.ensures.number c.eq.ensures

use Rattle.decision_diagram.proofs.GrowthLemmas.{splits_self, constant_behind}
use Rattle.decision_diagram.proofs.RestrictionLemmas.{small_from}
use Rattle.decision_diagram.proofs.diagram.Diagram.branches.Goals as goal

pub returns-then-not-is_inner : goal.returns-then-not-is_inner
returns-then-not-is_inner c =
    let d = c.args.self.now in
    splits_self d.vars d.nodes c.args.variable c.args.f
    (constant_behind d.vars d.nodes c.args.variable c.args.f c.requires.variable
    (small_from c.is_inner.result c.args.f c.is_inner.ensures c.if-not-is_inner.true))

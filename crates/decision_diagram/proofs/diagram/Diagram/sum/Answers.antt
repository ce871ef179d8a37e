use Rattle.std.proofs.Common.{eqb-true, sym}
use Rattle.decision_diagram.proofs.RestrictionLemmas.{xor_itself, xor_left, xor_right}
use Rattle.decision_diagram.proofs.diagram.Diagram.sum.Goals as goal

pub returns-then-eq-clause-stands : goal.returns-then-eq-clause-stands
returns-then-eq-clause-stands c =
    xor_itself c.args.self.now.nodes c.args.f c.args.g c.truth-no.result (eqb-true c.args.f c.args.g (sym c.if-eq.ensures)) c.truth-no.ensures.stands

pub returns-then-eq-2-clause-stands : goal.returns-then-eq-2-clause-stands
returns-then-eq-2-clause-stands c =
    xor_left c.args.self.now.nodes c.args.f c.args.g c.truth-no.result (eqb-true c.args.f c.truth-no.result (sym c.if-eq-2.ensures))
    c.truth-no.ensures.stands c.requires.right

pub returns-then-eq-3-clause-stands : goal.returns-then-eq-3-clause-stands
returns-then-eq-3-clause-stands c =
    xor_right c.args.self.now.nodes c.args.f c.args.g c.truth-no.result (eqb-true c.args.g c.truth-no.result (sym c.if-eq-3.ensures))
    c.truth-no.ensures.stands c.requires.left

use Rattle.decision_diagram.proofs.FlipLemmas.{some_from, none_from, sum_stands, sum_is_one, sum_is_large}
use Rattle.decision_diagram.proofs.diagram.Diagram.settled.Goals as goal

pub returns-clause-stands : goal.returns-clause-stands
returns-clause-stands c =
    some_from c.sum.result _ _
    (λ h. sum_stands c.args.self.now.nodes c.args.operands.now c.in_ok-product.product h c.in_ok-product.ensures.stands) c.sum.ensures.stands

pub returns-clause-one_of : goal.returns-clause-one_of
returns-clause-one_of c =
    some_from c.sum.result _ _ (λ h. sum_is_one c.args.operands.now c.in_ok-product.product h c.in_ok-product.ensures.one_of) c.sum.ensures.one_of

pub returns-clause-none : goal.returns-clause-none
returns-clause-none c =
    none_from c.sum.result _ _ (sum_is_large c.args.operands.now c.in_ok-product.product c.in_ok-product.ensures.one_of) c.sum.ensures.none

use Rattle.decision_diagram.proofs.FlipLemmas.{split_all}
use Rattle.decision_diagram.proofs.diagram.Diagram.split.Goals as goal

pub returns : goal.returns
returns c =
    let d = c.args.self.now in
    split_all d.vars d.nodes c.args.variable c.args.operands.now
    (record { target = c.branches-target_low.result.0; left = c.branches-left_low.result.0; right = c.branches-right_low.result.0 })
    (record { target = c.branches-target_low.result.1; left = c.branches-left_low.result.1; right = c.branches-right_low.result.1 })
    c.requires.first c.branches-target_low.ensures c.branches-left_low.ensures c.branches-right_low.ensures

use Rattle.decision_diagram.specs.declared.memo.Operands.{Operands}
use Rattle.decision_diagram.specs.inside.Flipping.{flipped_at}
use Rattle.decision_diagram.proofs.GrowthLemmas.{computes}
use Rattle.decision_diagram.proofs.diagram.Diagram.flip.Goals as goal

pub returns : goal.returns
returns c =
    let d = c.args.self.now in
    let o : Operands = record { target = c.args.target; left = c.args.left; right = c.args.right } in
    computes (flipped_at d.nodes o) d c.flip_by.new.self c.flip_by.result c.flip_by.ensures.grows c.flip_by.ensures.answer c.flip_by.ensures.refused

use Rattle.decision_diagram.specs.inside.Flipping.{total}
use Rattle.decision_diagram.proofs.diagram.Diagram.+flip_by.Given as goal

abbrev pub decreases-flip_by : goal.decreases-flip_by
decreases-flip_by l = total l.operands.now

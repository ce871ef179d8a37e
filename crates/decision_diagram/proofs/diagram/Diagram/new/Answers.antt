use Rattle.std.proofs.Common.{refl}
use Rattle.decision_diagram.proofs.diagram.Diagram.new.Goals as goal

pub returns-clause-empty : goal.returns-clause-empty
returns-clause-empty c = rw c.new.ensures.empty refl

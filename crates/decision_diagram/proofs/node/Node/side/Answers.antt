use Rattle.std.proofs.Common.{ap}
use Rattle.decision_diagram.specs.Diagrams.{Triple}
use Rattle.decision_diagram.proofs.node.Node.side.Goals as goal

pub returns-then-bit : goal.returns-then-bit
returns-then-bit c = rw c.if-bit.true (ap (λ (n : Triple). n.high) c.self.view_is)

pub returns-else-bit : goal.returns-else-bit
returns-else-bit c = rw c.if-bit.false (ap (λ (n : Triple). n.low) c.self.view_is)

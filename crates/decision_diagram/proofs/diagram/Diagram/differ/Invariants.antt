use Rattle.std.proofs.Common.{◌+◌}
use Rattle.decision_diagram.specs.Functions.{assignment_of}
use Rattle.decision_diagram.proofs.WalkLemmas.{UnderwayApart}
use Rattle.decision_diagram.proofs.diagram.Diagram.differ.Given as goal

abbrev pub invariant-walk : goal.invariant-walk
invariant-walk l = UnderwayApart l.self.vars l.self.nodes l.fn.f l.fn.g l.left l.right l.variable (assignment_of l.into)

abbrev pub decreases-walk : goal.decreases-walk
decreases-walk l = l.left + l.right

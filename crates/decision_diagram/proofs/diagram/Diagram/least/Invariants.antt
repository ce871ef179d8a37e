use Rattle.decision_diagram.specs.Functions.{assignment_of}
use Rattle.decision_diagram.proofs.WalkLemmas.{UnderwayTo}
use Rattle.decision_diagram.proofs.diagram.Diagram.least.Given as goal

abbrev pub invariant-walk : goal.invariant-walk
invariant-walk l = UnderwayTo l.self.vars l.self.nodes l.fn.f l.want l.at (assignment_of l.into)

abbrev pub decreases-walk : goal.decreases-walk
decreases-walk l = l.at

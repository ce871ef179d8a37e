use Rattle.copied_plans.proofs.StraightLemmas.{IsHeldTo}
use Rattle.copied_plans.proofs.planning.all_toggled.Given as goal

abbrev pub invariant-loop-node : goal.invariant-loop-node
invariant-loop-node l = IsHeldTo l.graph l.budget l.node l.forward

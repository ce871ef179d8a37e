use Rattle.circuit_tidy.proofs.SweepLemmas.{leads_further}
use Rattle.circuit_tidy.proofs.sweep.Sweep.meet_others.Goals as goal

pub loop-flip-preserved : goal.loop-flip-preserved
loop-flip-preserved c = leads_further _ _ _ c.loop-flip.invariant c.in_ok-changed.ensures

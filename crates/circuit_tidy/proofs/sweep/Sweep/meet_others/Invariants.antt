use Rattle.circuit_tidy.specs.inside.Sweeping.{Leads}
use Rattle.circuit_tidy.proofs.sweep.Sweep.meet_others.Given as goal

abbrev pub invariant-loop-flip : goal.invariant-loop-flip
invariant-loop-flip l = Leads l.initial.self l.self

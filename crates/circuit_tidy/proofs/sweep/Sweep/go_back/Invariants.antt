use Rattle.circuit_tidy.specs.inside.Sweeping.{Stays}
use Rattle.circuit_tidy.proofs.sweep.Sweep.go_back.Given as goal

abbrev pub invariant-loop-step : goal.invariant-loop-step
invariant-loop-step l = Stays l.initial.self l.self

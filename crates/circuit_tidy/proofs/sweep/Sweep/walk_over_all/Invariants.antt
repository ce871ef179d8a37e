use Rattle.circuit_tidy.specs.inside.Sweeping.{contents, IsWithin}
use Rattle.circuit_tidy.specs.inside.Work.{IsSwept}
use Rattle.circuit_tidy.proofs.sweep.Sweep.walk_over_all.Given as goal

abbrev pub invariant-loop-turn : goal.invariant-loop-turn
invariant-loop-turn l = IsWithin l.self × IsSwept l.fn.self.flips.items (contents l.self)

use Rattle.std.proofs.Common.{refl}
use Rattle.circuit_tidy.proofs.SweepLemmas.{cancels_leads}
use Rattle.circuit_tidy.proofs.sweep.Sweep.cancel_next.Goals as goal

pub returns : goal.returns
returns c = cancels_leads c.args.self.now _ c.args.place c.requires.within c.requires.meets c.remove-other.ensures.items refl refl

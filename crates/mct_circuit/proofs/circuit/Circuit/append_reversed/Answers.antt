use Rattle.mct_circuit.proofs.ReversalLemmas.{AreGatesOn-mirror}
use Rattle.mct_circuit.proofs.circuit.Circuit.append_reversed.Goals as goal

pub append-requires : goal.append-requires
append-requires c = rw (c.in_ok-mirrored.ensures.gates, c.deref.ensures.value, ← c.self.view_is) (AreGatesOn-mirror _ c.args.count _ c.self.invariant.0)

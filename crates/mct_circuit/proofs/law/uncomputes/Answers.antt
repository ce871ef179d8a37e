use Rattle.mct_circuit.proofs.ReversalLemmas.{conjugated}
use Rattle.mct_circuit.proofs.law.uncomputes.Goals as goal

pub returns : goal.returns
returns c = conjugated

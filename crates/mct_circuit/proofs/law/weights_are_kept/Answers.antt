use Rattle.mct_circuit.proofs.WeightLemmas.{weight-positive, weight-reverse}
use Rattle.mct_circuit.proofs.law.weights_are_kept.Goals as goal

pub returns : goal.returns
returns c = record { positive = weight-positive; reversed = weight-reverse }

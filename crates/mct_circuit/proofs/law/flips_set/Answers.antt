use Rattle.mct_circuit.proofs.FlipLemmas.{flip_sets}
use Rattle.mct_circuit.proofs.law.flips_set.Goals as goal

pub returns : goal.returns
returns c = flip_sets

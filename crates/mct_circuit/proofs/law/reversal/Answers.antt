use Rattle.mct_circuit.proofs.ReversalLemmas.{reversed_undoes}
use Rattle.mct_circuit.proofs.law.reversal.Goals as goal

pub returns : goal.returns
returns c = reversed_undoes

use Rattle.revs_terms.proofs.OutputLemmas.{has_outputs}
use Rattle.revs_terms.proofs.program.has_outputs.Goals as goal

pub returns : goal.returns
returns c = has_outputs

use Rattle.circuit_verify.proofs.TapeLemmas.{said_of_tapes}
use Rattle.circuit_verify.proofs.law.said_of_tapes.Goals as goal

pub returns : goal.returns
returns c = said_of_tapes

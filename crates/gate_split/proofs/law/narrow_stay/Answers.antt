use Rattle.gate_split.proofs.PieceLemmas.{stay}
use Rattle.gate_split.proofs.law.narrow_stay.Goals as goal

pub returns : goal.returns
returns c = stay

use Rattle.std.proofs.Common.{rules}
use Rattle.mct_circuit.proofs.size.flip_weight.Goals as goal

pub returns-else-controls-le2 : goal.returns-else-controls-le2
returns-else-controls-le2 c = search rules

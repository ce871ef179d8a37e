use Rattle.std.proofs.Common.{refl}
use Rattle.mct_circuit.proofs.circuit.Circuit.new.Goals as goal

pub returns : goal.returns
returns c = rw c.new.ensures.items refl

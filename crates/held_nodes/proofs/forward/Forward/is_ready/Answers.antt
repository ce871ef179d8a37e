use Rattle.std.proofs.Common.{refl}
use Rattle.held_nodes.proofs.forward.Forward.is_ready.Goals as goal

pub returns-in-Input : goal.returns-in-Input
returns-in-Input c = record { ready = rw c.in-Input.is refl }

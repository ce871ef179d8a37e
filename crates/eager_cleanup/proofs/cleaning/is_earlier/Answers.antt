use Rattle.std.proofs.Common.{refl}
use Rattle.eager_cleanup.proofs.cleaning.is_earlier.Goals as goal

pub returns-in-Node-Node : goal.returns-in-Node-Node
returns-in-Node-Node c = rw (c.in-Node-Node.is-0, c.in-Node-Node.is-1) refl

use Rattle.std.proofs.Common.{refl}
use Rattle.dependency_graph.proofs.fold.sig_of.Goals as goal

pub returns-in-Input : goal.returns-in-Input
returns-in-Input c = rw c.in-Input.is refl

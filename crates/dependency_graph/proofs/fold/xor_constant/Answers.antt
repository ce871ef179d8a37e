use Rattle.std.proofs.Common.{refl}
use Rattle.dependency_graph.proofs.fold.xor_constant.Goals as goal

pub returns-then-bit : goal.returns-then-bit
returns-then-bit c = rw c.if-bit.true refl

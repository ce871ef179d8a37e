use Rattle.std.proofs.Common.{rules}
use Rattle.dependency_graph.proofs.fold.and.Goals as goal

pub returns-in-Const-Is : goal.returns-in-Const-Is
returns-in-Const-Is c = rw (c.in-Const-Is.is-0, c.in-Const-Is.is-1) c.and_constant.ensures

pub returns-then-eq : goal.returns-then-eq
returns-then-eq c = rw (c.in-Is-Is.is-0, c.in-Is-Is.is-1) (search rules)

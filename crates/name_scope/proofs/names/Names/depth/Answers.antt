use Rattle.std.proofs.Common.{ap, length, arith}
use Rattle.name_scope.proofs.TableLemmas.{names-length}
use Rattle.name_scope.proofs.names.Names.depth.Goals as goal

pub returns : goal.returns
returns c = omega (arith, names-length c.self.inside.bound.items, ap length c.self.view_is, c.len.ensures)

use Rattle.std.proofs.Common.{rules}
use Rattle.exclusive_sums.proofs.poly.Poly.is_empty.Goals as goal

pub returns : goal.returns
returns c = rw (c.is_empty.ensures, ← c.self.view_is) (search rules)

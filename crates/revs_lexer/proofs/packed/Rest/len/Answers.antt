use Rattle.std.proofs.Common.{arith}
use Rattle.revs_lexer.proofs.RestLemmas.{left_length}
use Rattle.revs_lexer.proofs.packed.Rest.len.Goals as goal

pub returns : goal.returns
returns c = omega (arith, left_length c.args.self, c.len.ensures, c.saturating_sub.ensures)

use Rattle.std.proofs.Common.{refl}
use Rattle.revs_lexer.proofs.RestLemmas.{left_all}
use Rattle.revs_lexer.proofs.packed.TokenList.all.Goals as goal

pub returns : goal.returns
returns c = left_all _ refl

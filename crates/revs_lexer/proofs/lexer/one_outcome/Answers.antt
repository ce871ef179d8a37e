use Rattle.revs_lexer.proofs.CutLemmas.{one_way}
use Rattle.revs_lexer.proofs.lexer.one_outcome.Goals as goal

pub returns : goal.returns
returns c = one_way

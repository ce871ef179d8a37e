use Rattle.revs_lexer.proofs.SomeOutcomeLemmas.{some_outcome}
use Rattle.revs_lexer.proofs.lexer.some_outcome.Goals as goal

pub returns : goal.returns
returns c = some_outcome

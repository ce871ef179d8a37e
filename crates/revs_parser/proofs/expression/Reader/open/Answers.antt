use Rattle.std.proofs.Common.{refl}
use Rattle.revs_parser.proofs.expression.Reader.open.Goals as goal

pub returns-then-self-lt-MOST_LEVELS-clause-inner : goal.returns-then-self-lt-MOST_LEVELS-clause-inner
returns-then-self-lt-MOST_LEVELS-clause-inner c = refl

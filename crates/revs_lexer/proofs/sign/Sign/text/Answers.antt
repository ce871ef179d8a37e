use Rattle.std.proofs.Common.{refl}
use Rattle.revs_lexer.proofs.sign.Sign.text.Goals as goal

pub returns-in-Assign : goal.returns-in-Assign
returns-in-Assign c = rw c.in-Assign.is refl

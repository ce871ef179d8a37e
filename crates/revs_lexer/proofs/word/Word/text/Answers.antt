use Rattle.std.proofs.Common.{refl}
use Rattle.revs_lexer.proofs.word.Word.text.Goals as goal

pub returns-in-Fun : goal.returns-in-Fun
returns-in-Fun c = rw c.in-Fun.is refl

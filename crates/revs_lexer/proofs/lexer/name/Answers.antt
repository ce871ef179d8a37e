use Rattle.std.proofs.Common.{sym}
use Rattle.revs_lexer.proofs.TableLemmas.{word_of-some}
use Rattle.revs_lexer.proofs.lexer.name.Goals as goal

pub returns-in-Some-clause-spelled : goal.returns-in-Some-clause-spelled
returns-in-Some-clause-spelled c = word_of-some c.args.bytes.now c.in-Some.word (sym c.in-Some.ensures)

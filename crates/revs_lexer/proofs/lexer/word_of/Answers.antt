use Rattle.std.proofs.Common.{sym}
use Rattle.revs_lexer.proofs.FirstByteLemmas.{long_is_no_word}
use Rattle.revs_lexer.proofs.lexer.word_of.Goals as goal

pub returns-in_default-50 : goal.returns-in_default-50
returns-in_default-50 c = sym (long_is_no_word c.args.bytes.now c.in_default.len_at_least)

use Rattle.std.proofs.Common.{sym, ◌∙◌}
use Rattle.qasm_format.proofs.ReadingLemmas.{reads_word, stops_at_word, same_word, other_word}
use Rattle.qasm_format.proofs.reader.take_word.Goals as goal

pub returns-then-not-is_word-clause-err : goal.returns-then-not-is_word-clause-err
returns-then-not-is_word-clause-err c =
    stops_at_word c.args.wanted.now c.next-token.ensures (other_word _ c.args.wanted.now (sym c.is_word.ensures ∙ c.if-not-is_word.true))

pub returns-clause-ok : goal.returns-clause-ok
returns-clause-ok c =
    reads_word c.args.wanted.now c.next-token.ensures c.requires (same_word _ c.args.wanted.now (sym c.is_word.ensures ∙ c.if-not-is_word.false))

use Rattle.qasm_format.proofs.words.kind_of.Goals as goal

pub returns-then-is_word-2 : goal.returns-then-is_word-2
returns-then-is_word-2 c = rw (← c.is_word.ensures, c.if-is_word.false, ← c.is_word-2.ensures, c.if-is_word-2.true)

use Rattle.std.proofs.Common.{sym, ◌∙◌}
use Rattle.qasm_lexer.proofs.RunTestLemmas.{digits_of}
use Rattle.qasm_format.proofs.reader.take_number.Goals as goal

pub number-requires-clause-digits : goal.number-requires-clause-digits
number-requires-clause-digits c = digits_of c.next-token.result.word.now (sym c.is_number.ensures ∙ c.in_ok-admit.ensures.ok.0)

use Rattle.qasm_lexer.proofs.SomeTokensLemmas.{some_tokens}
use Rattle.qasm_lexer.proofs.law.each_text_has_tokens.Goals as goal

pub returns : goal.returns
returns c = some_tokens

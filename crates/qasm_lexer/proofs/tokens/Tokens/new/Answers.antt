use Rattle.std.proofs.Common.{rules, refl}
use Rattle.qasm_lexer.proofs.tokens.Tokens.new.Goals as goal

pub invariant_of-result : goal.invariant_of-result
invariant_of-result c = search rules

pub returns : goal.returns
returns c = refl

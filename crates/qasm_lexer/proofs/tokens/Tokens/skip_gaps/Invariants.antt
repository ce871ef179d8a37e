use Rattle.std.proofs.Common.{[], length}
use Rattle.qasm_lexer.specs.Tokens.{Moves}
use Rattle.qasm_lexer.proofs.MoveLemmas.{IsGapLen}
use Rattle.qasm_lexer.proofs.tokens.Tokens.skip_gaps.Given as goal

abbrev pub invariant-loop-len : goal.invariant-loop-len
invariant-loop-len l = record { moves : Moves l.initial.self l.self []; gap : IsGapLen l.self.bytes l.len }

abbrev pub decreases-loop-len : goal.decreases-loop-len
decreases-loop-len l = length l.self.bytes

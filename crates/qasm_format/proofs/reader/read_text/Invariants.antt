use Rattle.std.proofs.Common.{length}
use Rattle.qasm_format.specs.Stages.{starts, head}
use Rattle.qasm_lexer.specs.Tokens.{whole}
use Rattle.qasm_format.specs.Qasm.{Reads}
use Rattle.qasm_format.specs.inside.Says.{said_of, IsSound}
use Rattle.qasm_format.proofs.reader.read_text.Given as goal

abbrev pub invariant-statements : goal.invariant-statements
invariant-statements l = record {
  reads : Reads (whole l.bytes) l.tokens head (starts (said_of l.said));
  sound : IsSound l.said;
}

abbrev pub decreases-statements : goal.decreases-statements
decreases-statements l = length l.tokens.bytes

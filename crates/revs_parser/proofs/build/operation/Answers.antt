use Rattle.std.proofs.Common.{refl}
use Rattle.revs_parser.proofs.PassingLemmas.{halts_on}
use Rattle.revs_parser.proofs.build.operation.Goals as goal

pub returns-in_err-operand : goal.returns-in_err-operand
returns-in_err-operand c = halts_on _ _ _ c.from_residual.ensures.1 refl

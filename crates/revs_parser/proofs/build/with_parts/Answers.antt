use Rattle.std.proofs.Common.{refl}
use Rattle.revs_parser.proofs.PassingLemmas.{halts_on}
use Rattle.revs_parser.proofs.build.with_parts.Goals as goal

pub returns-in_err-new : goal.returns-in_err-new
returns-in_err-new c = halts_on _ _ _ c.from_residual.ensures.1 refl

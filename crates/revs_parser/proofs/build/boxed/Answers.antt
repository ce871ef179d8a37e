use Rattle.std.proofs.Common.{refl}
use Rattle.revs_parser.proofs.PassingLemmas.{halts_on}
use Rattle.revs_parser.proofs.build.boxed.Goals as goal

pub returns-in_err-second : goal.returns-in_err-second
returns-in_err-second c = halts_on _ _ _ c.from_residual.ensures.1 refl

pub returns-in_err-second-2 : goal.returns-in_err-second-2
returns-in_err-second-2 c = halts_on _ _ _ c.from_residual-in_err-second-2.ensures.1 refl

pub returns : goal.returns
returns c =
    let both = c.in_ok-second.ensures in
    (rw both.1 at c.new.ensures.ok, rw c.in_ok-second-2.ensures.ok both.0)

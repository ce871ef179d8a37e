use Rattle.std.proofs.Common.{refl}
use Rattle.revs_parser.proofs.TokenLemmas.{heads, nothing_no_number}
use Rattle.revs_parser.proofs.leaf.first_number.Goals as goal

pub returns-in_err-first-clause-none : goal.returns-in_err-first-clause-none
returns-in_err-first-clause-none c = rw c.from_residual.ensures (nothing_no_number _ c.in_err-first.ensures.none)

pub returns-in-Number-clause-found : goal.returns-in-Number-clause-found
returns-in-Number-clause-found c = heads (rw c.in-Number.is at c.in_ok-first.ensures.found) (λ bytes. refl)

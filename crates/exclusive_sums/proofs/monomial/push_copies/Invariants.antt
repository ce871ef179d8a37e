use Rattle.std.proofs.Common.{◌≡◌, ◌++◌, take}
use Rattle.exclusive_sums.proofs.monomial.push_copies.Given as goal

abbrev pub invariant-loop-monomial : goal.invariant-loop-monomial
invariant-loop-monomial l = l.all.items ≡ l.initial.all.items ++ take l.monomial-index l.more

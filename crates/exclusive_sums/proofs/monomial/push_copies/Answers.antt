use Rattle.exclusive_sums.proofs.FillingLemmas.{appended_more}
use Rattle.exclusive_sums.proofs.monomial.push_copies.Goals as goal

pub loop-monomial-preserved : goal.loop-monomial-preserved
loop-monomial-preserved c =
    appended_more c.args.more.now c.loop-monomial.monomial-index c.monomial-item.result c.args.all.now.items c.loop-monomial.all.items _
    c.loop-monomial-test.true c.monomial-item.is c.in_ok-push_copy.ensures c.loop-monomial.invariant

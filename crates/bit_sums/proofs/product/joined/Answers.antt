use Rattle.std.proofs.lemmas.Option.{IfSome_then}
use Rattle.std.proofs.lemmas.Result.{IfOk-weaker}
use Rattle.bit_sums.proofs.JoinLemmas.{none_joined, none_so}
use Rattle.bit_sums.proofs.PartLemmas.{joined_crossing, joined_shared, joined_turned}
use Rattle.bit_sums.proofs.product.joined.Goals as goal

pub returns-in-Some-clause-some : goal.returns-in-Some-clause-some
returns-in-Some-clause-some c = joined_shared c.args.p.now c.args.q.now _ _ (rw c.in-Some.is at c.in_ok-part.ensures.some)

pub returns-in-Some-2-clause-some : goal.returns-in-Some-2-clause-some
returns-in-Some-2-clause-some c = joined_crossing c.args.p.now c.args.q.now _ _ (rw c.in-Some-2.is at c.in_ok-part-2.ensures.some)

pub returns-clause-some : goal.returns-clause-some
returns-clause-some c =
    IfOk-weaker c.crossed-2.result _ _
    (λ found w. IfSome_then found w (λ part x. joined_turned c.args.p.now c.args.q.now part.bits.items part.product x)) c.crossed-2.ensures.some

pub returns-clause-none : goal.returns-clause-none
returns-clause-none c =
    let shared = rw c.in_default.is at c.in_ok-part.ensures.none in
    let crossed = rw c.in_default-2.is at c.in_ok-part-2.ensures.none in
    IfOk-weaker c.crossed-2.result _ _ (λ found. none_so found (none_joined c.args.p.now c.args.q.now shared crossed)) c.crossed-2.ensures.none

use Rattle.std.proofs.lemmas.Option.{IfSome_then}
use Rattle.std.proofs.lemmas.Result.{IfOk-weaker}
use Rattle.bit_sums.proofs.JoinLemmas.{none_shared, none_so}
use Rattle.bit_sums.proofs.PartLemmas.{own_factors_of, turned_factors_of}
use Rattle.bit_sums.proofs.product.by_shared_factor.Goals as goal

pub returns-in-Some-clause-some : goal.returns-in-Some-clause-some
returns-in-Some-clause-some c =
    let joins = rw (c.in-Some.is, c.first.ensures.first, c.second.ensures.second) at c.in_ok-part.ensures.some in
    joins c.args.p.now (own_factors_of c.args.p.now)

pub returns-clause-some : goal.returns-clause-some
returns-clause-some c =
    IfOk-weaker c.by_factor-2.result _ _ (λ found w. IfSome_then found w (λ part joins. joins c.args.p.now (turned_factors_of c.args.p.now)))
    (rw (c.first-2.ensures.first, c.second-2.ensures.second) at c.by_factor-2.ensures.some)

pub returns-clause-none : goal.returns-clause-none
returns-clause-none c =
    let second = rw (c.in_default.is, c.first.ensures.first, c.second.ensures.second) at c.in_ok-part.ensures.none in
    IfOk-weaker c.by_factor-2.result _ _ (λ found. none_so found (none_shared c.args.p.now c.args.q.now second))
    (rw (c.first-2.ensures.first, c.second-2.ensures.second) at c.by_factor-2.ensures.none)

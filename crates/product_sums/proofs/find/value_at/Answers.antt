use Rattle.std.proofs.Common.{subst, sym}
use Rattle.product_sums.specs.inside.Deriving.{Follows}
use Rattle.product_sums.proofs.RecordLemmas.{known_follows}
use Rattle.product_sums.proofs.find.value_at.Goals as goal

pub returns : goal.returns
returns c =
    let known = c.args.known.now in
    let first = c.args.first.now in
    let second = c.args.second.now in
    subst (Follows known first second) (sym c.in_ok-value.ensures)
    (known_follows known c.args.place c.in-Some.k.now first second c.in-Some.ensures.lookup.0 c.in-Some.ensures.lookup.1
    (c.has_factors.ensures c.if-not-has_factors.false))

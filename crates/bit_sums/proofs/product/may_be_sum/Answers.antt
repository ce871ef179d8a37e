use Rattle.std.proofs.Common.{◌<◌, ◌∙◌, length, sym, rules}
use Rattle.bit_sums.proofs.JoinLemmas.{never_sum}
use Rattle.bit_sums.proofs.product.may_be_sum.Goals as goal

pub returns-else-has : goal.returns-else-has
returns-else-has c = λ none e.
    let some : 0 < length c.args.bits.now = search rules in
    never_sum _ c.args.bits.now c.args.p.now.first c.args.p.now.second some
    (rw c.first.ensures.first at (sym c.has.ensures ∙ c.if-has.false))
    (rw c.second.ensures.second at (sym c.has-else-has.ensures ∙ none)) e

use Rattle.std.proofs.Common.{subst}
use Rattle.std.proofs.lemmas.Option.{same_Some}
use Rattle.linear_forms.specs.Pairs.{IsSumOf}
use Rattle.linear_forms.proofs.PairLemmas.{sum_is}
use Rattle.linear_forms.proofs.pairs.linear_sum.Goals as goal

pub returns-then-is_symmetric : goal.returns-then-is_symmetric
returns-then-is_symmetric c sum is =
    subst (IsSumOf c.args.size c.args.pairs.now) (same_Some c.alone.result sum is)
    (sum_is c.args.size c.args.pairs.now c.alone.result (c.is_symmetric.ensures c.if-is_symmetric.true) c.alone.ensures.set c.alone.ensures.one)

use Rattle.std.proofs.Common.{refl}
use Rattle.wide_sums.proofs.RowLemmas.{variable_high, variable_low}
use Rattle.wide_sums.proofs.axes.variable.Goals as goal

pub returns-then-place-lt6 : goal.returns-then-place-lt6
returns-then-place-lt6 c = variable_low _ _ _ c.if-place-lt6.true refl

pub returns-else-place-lt6 : goal.returns-else-place-lt6
returns-else-place-lt6 c = variable_high _ _ _ _ c.if-place-lt6.false c.is_set.ensures c.ones.ensures

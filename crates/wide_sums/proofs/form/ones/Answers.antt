use Rattle.wide_sums.proofs.FormLemmas.{ones_false, ones_true}
use Rattle.wide_sums.proofs.form.ones.Goals as goal

pub returns-then-bit : goal.returns-then-bit
returns-then-bit c = rw c.if-bit.true ones_true

pub returns-else-bit : goal.returns-else-bit
returns-else-bit c = rw c.if-bit.false ones_false

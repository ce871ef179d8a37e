use Rattle.std.proofs.Common.{refl}
use Rattle.wide_sums.proofs.FormLemmas.{form_sum}
use Rattle.wide_sums.proofs.form.Form.plus.Goals as goal

pub returns : goal.returns
returns c = form_sum _ _ _ (rw (c.deref.ensures.value, c.deref-2.ensures.value) at c.in_ok-apart.ensures) refl

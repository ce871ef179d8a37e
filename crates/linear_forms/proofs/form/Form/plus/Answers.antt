use Rattle.std.proofs.Common.{refl}
use Rattle.linear_forms.proofs.FormLemmas.{sum_of_forms}
use Rattle.linear_forms.proofs.form.Form.plus.Goals as goal

pub returns : goal.returns
returns c atom =
    rw (← c.self.view_is, ← c.other.view_is) (sum_of_forms atom _ _ _ refl (rw (c.deref.ensures.value, c.deref-2.ensures.value) at c.in_ok-terms.ensures))

use Rattle.std.proofs.Common.{refl}
use Rattle.linear_forms.proofs.FormLemmas.{more_one}
use Rattle.linear_forms.proofs.form.Form.with_one.Goals as goal

pub returns : goal.returns
returns c atom = rw (← c.self.view_is) (more_one atom c.args.one _ _ refl refl)

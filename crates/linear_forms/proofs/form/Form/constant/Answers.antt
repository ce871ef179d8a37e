use Rattle.linear_forms.proofs.FormLemmas.{no_atoms}
use Rattle.linear_forms.proofs.form.Form.constant.Goals as goal

pub returns : goal.returns
returns c atom = no_atoms atom _ c.new.ensures.items

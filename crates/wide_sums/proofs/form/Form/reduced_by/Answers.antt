use Rattle.std.proofs.lemmas.Result.{IfOk-weaker}
use Rattle.wide_sums.proofs.FormLemmas.{reduced_by}
use Rattle.wide_sums.proofs.form.Form.reduced_by.Goals as goal

pub returns-in-Some : goal.returns-in-Some
returns-in-Some c = IfOk-weaker c.plus.result _ _ (λ sum is. reduced_by _ _ sum is) c.plus.ensures

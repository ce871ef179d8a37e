use Rattle.std.proofs.lemmas.Result.{IfOk-weaker}
use Rattle.wide_sums.proofs.KnownLemmas.{bit_alone}
use Rattle.wide_sums.proofs.known.form_of_base.Goals as goal

pub returns-in-Input : goal.returns-in-Input
returns-in-Input c = IfOk-weaker c.bit.result _ _ (λ form is. bit_alone _ _ form is) c.bit.ensures

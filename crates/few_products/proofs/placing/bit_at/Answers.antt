use Rattle.std.proofs.Common.{ap, ◌∙◌}
use Rattle.std.proofs.lemmas.Result.{IfOk-weaker}
use Rattle.bit_sums.specs.Growing.{sum_of_factor}
use Rattle.few_products.proofs.placing.bit_at.Goals as goal

pub returns : goal.returns
returns c = IfOk-weaker c.of.result _ _ (λ sum is. is ∙ ap sum_of_factor c.in_ok-factor.ensures) c.of.ensures.sum

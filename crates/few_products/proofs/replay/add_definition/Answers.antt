use Rattle.std.proofs.Common.{IfSome, Option, subst}
use Rattle.bit_sums.specs.Sums.{SumView}
use Rattle.wide_sums.specs.Wide.{Vanishes}
use Rattle.few_products.proofs.DefinitionLemmas.{kept_same}
use Rattle.few_products.proofs.replay.add_definition.Goals as goal

pub returns-in_default : goal.returns-in_default
returns-in_default c = kept_same _

pub add-requires : goal.add-requires
add-requires c =
    rw c.deref.ensures.value
    at (subst (λ (found : Option SumView). IfSome found (Vanishes c.deref.result.now)) c.in-Some.is c.in_ok-zero.ensures)

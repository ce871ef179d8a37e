use Rattle.few_products.proofs.DefinitionLemmas.{kept_both, kept_same}
use Rattle.few_products.proofs.replay.replay.Goals as goal

pub loop-step-init : goal.loop-step-init
loop-step-init c = kept_same _

pub loop-step-preserved : goal.loop-step-preserved
loop-step-preserved c = kept_both _ _ _ c.loop-step.invariant c.in_ok-take.ensures

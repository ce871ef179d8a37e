use Rattle.few_products.proofs.DefinitionLemmas.{and_more, no_more}
use Rattle.few_products.proofs.definitions.definitions.Goals as goal

pub loop-sum-init : goal.loop-sum-init
loop-sum-init c = no_more _ _ c.in_ok-all.ensures

pub loop-sum-preserved : goal.loop-sum-preserved
loop-sum-preserved c =
    let known = c.is_known_sum.ensures c.if-not-is_known_sum.false in
    rw c.in_ok-push.ensures.items (and_more _ _ _ c.loop-sum.invariant (rw (c.inputs-inputs.ensures.inputs, c.deref.ensures.value) at known))

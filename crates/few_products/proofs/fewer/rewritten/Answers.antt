use Rattle.few_products.proofs.DefinitionLemmas.{has_valuation, still_rewritten}
use Rattle.few_products.proofs.fewer.rewritten.Goals as goal

pub written-requires : goal.written-requires
written-requires c =
    let are = rw c.in-Some.is at c.in_ok-all.ensures in
    rw c.deref-3.ensures.value (still_rewritten _ _ _ (has_valuation _ _ c.inputs.ensures.keeps are) c.in_ok-replay.ensures)

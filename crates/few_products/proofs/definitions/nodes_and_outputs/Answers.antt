use Rattle.std.proofs.Common.{ap, length, refl, slice_get, sym, ◌∙◌}
use Rattle.std.proofs.lemmas.Option.{slice_get_read}
use Rattle.few_products.proofs.DefinitionLemmas.{all_outputs, begun, one_more}
use Rattle.few_products.proofs.definitions.nodes_and_outputs.Goals as goal

pub loop-sum-init : goal.loop-sum-init
loop-sum-init c = begun _ _ c.in_ok-all.ensures c.outputs-sum-items.ensures.keeps

pub loop-sum-preserved : goal.loop-sum-preserved
loop-sum-preserved c =
    let sums = c.outputs-sum-items.result.now in
    let e =
    ap (λ l. slice_get l c.loop-sum.sum-index) (sym c.outputs-sum-items.ensures.outputs)
    ∙ slice_get_read sums (length sums) c.loop-sum.sum-index _ refl c.loop-sum-test.true c.sum-item.is in
    rw (c.in_ok-push.ensures.items, c.in_ok-of.ensures)
    (one_more c.args.graph.now c.loop-sum.sum-index _ _ c.outputs-sum-items.ensures.keeps e c.loop-sum.invariant)

pub returns : goal.returns
returns c = all_outputs _ c.loop-sum.sum-index _ (rw c.outputs-sum-items.ensures.outputs at c.loop-sum-test.false) c.loop-sum.invariant

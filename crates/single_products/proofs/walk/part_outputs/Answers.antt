use Rattle.std.proofs.Common.{◌∙◌, ap, arith, refl, length, slice_get, subst, sym}
use Rattle.std.proofs.lemmas.Option.{slice_get_read}
use Rattle.single_products.specs.inside.Parting.{AreOutputsParted}
use Rattle.single_products.proofs.WalkLemmas.{output_parted, output_placed, output_room, outputs_begun}
use Rattle.single_products.proofs.walk.part_outputs.Goals as goal

pub loop-sum-init : goal.loop-sum-init
loop-sum-init c = rw c.in_ok-sums.ensures.items (outputs_begun _ _ _ c.requires.parted)

pub part_output-requires-clause-places : goal.part_output-requires-clause-places
part_output-requires-clause-places c =
    output_placed c.args.graph.now c.loop-sum.sum-index _ _ _ _ c.outputs-sum-items.ensures.keeps c.loop-sum.invariant
    (ap (λ l. slice_get l c.loop-sum.sum-index) (sym c.outputs-sum-items.ensures.outputs)
    ∙ slice_get_read c.outputs-sum-items.result.now (length c.outputs-sum-items.result.now) c.loop-sum.sum-index _ refl c.loop-sum-test.true c.sum-item.is)

pub part_output-requires-clause-room : goal.part_output-requires-clause-room
part_output-requires-clause-room c =
    output_room c.args.graph.now c.loop-sum.sum-index _ _ _ _ c.requires.room c.loop-sum.invariant
    (ap (λ l. slice_get l c.loop-sum.sum-index) (sym c.outputs-sum-items.ensures.outputs)
    ∙ slice_get_read c.outputs-sum-items.result.now (length c.outputs-sum-items.result.now) c.loop-sum.sum-index _ refl c.loop-sum-test.true c.sum-item.is)

pub loop-sum-preserved : goal.loop-sum-preserved
loop-sum-preserved c =
    rw c.in_ok-push.ensures.items
    (output_parted c.args.graph.now c.loop-sum.sum-index _ _ _ _ _ _ c.outputs-sum-items.ensures.keeps c.loop-sum.invariant
    (ap (λ l. slice_get l c.loop-sum.sum-index) (sym c.outputs-sum-items.ensures.outputs)
    ∙ slice_get_read c.outputs-sum-items.result.now (length c.outputs-sum-items.result.now) c.loop-sum.sum-index _ refl c.loop-sum-test.true c.sum-item.is)
    c.in_ok-output.ensures)

pub returns : goal.returns
returns c =
    subst (λ j. AreOutputsParted c.args.graph.now j c.args.places.now c.loop-sum.nodes.keys c.loop-sum.sums.items)
    (omega (arith, c.loop-sum-test.false, c.loop-sum.auto.sum-index-end, ap length c.outputs-sum-items.ensures.outputs)) c.loop-sum.invariant

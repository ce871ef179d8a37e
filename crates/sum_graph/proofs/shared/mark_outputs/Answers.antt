use Rattle.std.proofs.Common.{slice_get, ap, sym, ◌∙◌}
use Rattle.std.proofs.lemmas.Option.{slice_get-get_or}
use Rattle.sum_graph.proofs.MarkLemmas.{output_marked, output_within, outputs_begun}
use Rattle.sum_graph.proofs.shared.mark_outputs.Goals as goal

pub mark_output-requires : goal.mark_output-requires
mark_output-requires c =
    output_within c.args.graph.now c.loop-sig.sig-index _ _ c.outputs-sig-items.ensures.settled
    (ap (λ l. slice_get l c.loop-sig.sig-index) (sym c.outputs-sig-items.ensures.outputs)
    ∙ slice_get-get_or c.outputs-sig-items.result.now c.loop-sig.sig-index _ c.loop-sig-test.true)
    c.loop-sig.invariant

pub loop-sig-preserved : goal.loop-sig-preserved
loop-sig-preserved c =
    output_marked c.args.graph.now c.loop-sig.sig-index _ _ _
    (ap (λ l. slice_get l c.loop-sig.sig-index) (sym c.outputs-sig-items.ensures.outputs)
    ∙ slice_get-get_or c.outputs-sig-items.result.now c.loop-sig.sig-index _ c.loop-sig-test.true)
    c.loop-sig.invariant c.mark_output.ensures

pub loop-sig-init : goal.loop-sig-init
loop-sig-init c = outputs_begun c.args.graph.now _ c.requires

use Rattle.std.proofs.Common.{slice_get, refl, ap, sym, ◌∙◌}
use Rattle.std.proofs.lemmas.Option.{slice_get-get_or}
use Rattle.sum_graph.proofs.WalkLemmas.{can_output, one_more_output, outputs_begun}
use Rattle.sum_graph.proofs.walk.Walk.outputs.Goals as goal

pub output-requires : goal.output-requires
output-requires c =
    can_output c.args.self.now.graph.now _ _ _ _ c.loop-sig.sig-index _ c.requires.settled c.loop-sig.invariant.ended
    (ap (λ l. slice_get l c.loop-sig.sig-index) (sym c.outputs-sig-items.ensures.outputs)
    ∙ slice_get-get_or c.outputs-sig-items.result.now c.loop-sig.sig-index _ c.loop-sig-test.true)

pub loop-sig-preserved : goal.loop-sig-preserved
loop-sig-preserved c = record {
  graph = c.loop-sig.invariant.graph;
  nodes = c.loop-sig.invariant.nodes;
  ended = rw c.in_ok-push.ensures.items
      (one_more_output c.args.self.now.graph.now _ _ _ _ _ c.loop-sig.sig-index _ c.in_ok-output.field-0 c.requires.settled c.loop-sig.invariant.ended
      (ap (λ l. slice_get l c.loop-sig.sig-index) (sym c.outputs-sig-items.ensures.outputs)
      ∙ slice_get-get_or c.outputs-sig-items.result.now c.loop-sig.sig-index _ c.loop-sig-test.true)
      c.in_ok-output.ensures);
}

pub loop-sig-init : goal.loop-sig-init
loop-sig-init c = record { graph = refl; nodes = refl; ended = rw c.new-sums.ensures.items (outputs_begun _ _ _ _ c.requires) }

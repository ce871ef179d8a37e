use Rattle.std.proofs.Common.{IfSome, Option, length, refl, subst, sym, ◌∙◌}
use Rattle.std.proofs.lemmas.Bool.{ltb-true}
use Rattle.std.proofs.lemmas.Option.{slice_get_read}
use Rattle.few_products.specs.declared.placing.Place.{Place}
use Rattle.few_products.specs.inside.Writing.{IsWrittenNode}
use Rattle.few_products.proofs.WritingLemmas.{next_written, nothing_written}
use Rattle.few_products.proofs.writing.nodes_in_order.Goals as goal

pub loop-node-init : goal.loop-node-init
loop-node-init c = (refl, rw c.new-nodes.ensures.empty (nothing_written _ _ _ c.in_ok-places.ensures))

pub write_node-requires : goal.write_node-requires
write_node-requires c = c.loop-node.invariant.1.standing

pub loop-node-preserved : goal.loop-node-preserved
loop-node-preserved c =
    let definitions = c.args.definitions.now in
    let at = c.in-Some.ensures.lookup in
    let e = slice_get_read definitions (length definitions) _ _ refl (ltb-true _ _ (sym at.0)) at.1 in
    let old = c.loop-node.written in
    let new = c.write_node.new.self in
    let place = subst (λ (found : Option Place). IfSome found (IsWrittenNode c.in-Some.sum.now old new)) c.in-Some-2.is c.in_ok-place.ensures in (
      place.0.inputs ∙ c.loop-node.invariant.0,
      next_written _ old new _ _ _ c.loop-node.invariant.1 e place,
    )

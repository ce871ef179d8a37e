use Rattle.std.proofs.Common.{IfSome, Option, length, refl, subst, sym}
use Rattle.std.proofs.lemmas.Bool.{ltb-true}
use Rattle.std.proofs.lemmas.Option.{slice_get_read}
use Rattle.wide_sums.specs.declared.form.Form.{Form}
use Rattle.wide_sums.specs.inside.Forms.{IsSumForm}
use Rattle.wide_sums.proofs.WindowLemmas.{opened_begun, opened_next}
use Rattle.wide_sums.proofs.window.opened.Goals as goal

pub loop-node-init : goal.loop-node-init
loop-node-init c = rw c.new-known.ensures.items (opened_begun _ _)

pub loop-node-preserved : goal.loop-node-preserved
loop-node-preserved c =
    let definitions = c.args.definitions.now in
    let at = c.in-Some.ensures.lookup in
    let e = slice_get_read definitions (length definitions) _ _ refl (ltb-true _ _ (sym at.0)) at.1 in
    let P = IsSumForm c.args.axes.now c.deref.result.now c.in-Some.definition.now in
    let form = rw c.deref.ensures.value at (subst (λ (found : Option Form). IfSome found P) c.in-Some-2.is c.in_ok-form.ensures) in
    rw c.in_ok-push.ensures.items (opened_next _ _ _ _ _ _ e refl form c.loop-node.invariant)

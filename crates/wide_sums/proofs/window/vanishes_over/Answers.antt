use Rattle.std.proofs.Common.{IfSome, Option, subst, sym, ◌∙◌}
use Rattle.std.specs.Global.{Vec}
use Rattle.std.proofs.lemmas.Bool.{eqb-true}
use Rattle.wide_sums.specs.declared.form.Form.{Form}
use Rattle.wide_sums.specs.declared.known.Known.{Known}
use Rattle.wide_sums.specs.inside.Forms.{AreOpened, IsSumForm}
use Rattle.wide_sums.proofs.WindowLemmas.{vanishes_over}
use Rattle.wide_sums.proofs.window.vanishes_over.Goals as goal

pub returns-in-Some-word_alone : goal.returns-in-Some-word_alone
returns-in-Some-word_alone c =
    let definitions = c.args.definitions.now in
    let axes = c.args.axes.now in
    let opened = subst (λ (found : Option (Vec Known)). IfSome found (λ k. AreOpened definitions axes k.items)) c.in-Some.is c.in_ok-known.ensures in
    let P = IsSumForm axes c.deref.result.now c.args.sum.now in
    let form = rw c.deref.ensures.value at (subst (λ (found : Option Form). IfSome found P) c.in-Some-2.is c.in_ok-form.ensures) in
    λ yes.
    vanishes_over definitions axes _ c.args.sum.now _ _ opened form c.in_ok-form-2.ensures c.in-Some-word_alone.ensures.0
    (sym c.in-Some-word_alone.ensures.1 ∙ eqb-true _ _ yes)

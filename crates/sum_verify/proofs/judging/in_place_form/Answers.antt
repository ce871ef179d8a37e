use Rattle.std.proofs.Common.{◌≡◌, ◌<◌, ◌≤◌, length, subst, sym, arith, ◌∙◌}
use Rattle.std.proofs.lemmas.List.{get_or_read}
use Rattle.list_facts.specs.Bits.{bit_of}
use Rattle.linear_forms.specs.Bases.{no_form}
use Rattle.linear_forms.specs.Forms.{FormView}
use Rattle.circuit_verify.specs.Compared.{comparison}
use Rattle.circuit_verify.specs.Comparisons.{wanted_on}
use Rattle.sum_verify.specs.inside.Forms.{IsFormOf, form_at}
use Rattle.sum_verify.proofs.JudgeLemmas.{late_in_place, wanted_in_place, wanted_late}
use Rattle.sum_verify.proofs.judging.in_place_form.Goals as goal

pub returns-then-line-outputs : goal.returns-then-line-outputs
returns-then-line-outputs c =
    let v = c.args.compared.now in
    let ready = c.variables.ensures.ready in
    let late : length v.graph.outputs ≤ c.args.line = omega (arith, c.if-line-outputs.true, c.outputs.ensures) in
    wanted_late v ready c.args.products.now c.args.line c.in_ok-start_form.field-0
    (late_in_place v ready c.args.line c.requires.placing late) c.in_ok-start_form.ensures

pub returns : goal.returns
returns c =
    let v = c.args.compared.now in
    let q = comparison v in
    let line = c.args.line in
    let outputs = c.args.outputs.now in
    let low : line < length v.graph.outputs = omega (arith, c.if-line-outputs.false, c.outputs.ensures) in
    let read : c.index-outputs-line.result ≡ form_at outputs line =
    get_or_read outputs line c.index-outputs-line.result (omega (arith, low, c.requires.outputs.one_each)) c.index-outputs-line.is no_form in
    subst (λ (f : FormView). IsFormOf q c.args.products.now f (λ bits. bit_of (wanted_on q bits) line)) (sym (c.in_ok-copy.ensures ∙ read))
    (wanted_in_place v c.args.products.now outputs line c.requires.placing low c.requires.outputs)

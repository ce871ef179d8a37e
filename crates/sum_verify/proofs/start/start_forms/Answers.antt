use Rattle.std.proofs.Common.{◌+◌, List, ap, subst, sym, ◌∙◌, arith}
use Rattle.linear_forms.specs.Forms.{FormView}
use Rattle.circuit_verify.specs.Compared.{ComparedView, comparison}
use Rattle.sum_verify.specs.inside.Forms.{AreStartForms}
use Rattle.sum_verify.proofs.StartLemmas.{starts_more}
use Rattle.sum_verify.proofs.start.start_forms.Goals as goal

pub loop-line-preserved : goal.loop-line-preserved
loop-line-preserved c =
    let q = comparison c.args.compared.now in
    let lines = c.lines-count.ensures.lines ∙ ap (λ (w : ComparedView). w.circuit.lines) c.compared.view_is in
    subst (λ (fs : List FormView). AreStartForms q (c.loop-line.line + 1) fs) (sym {A = List FormView} c.in_ok-push.ensures.items)
    (starts_more q c.loop-line.line c.loop-line.lines.items c.in_ok-start_form.field-0 c.variables.ensures.ready.comparable.lines
    (omega (arith, c.loop-line-test.true, lines)) c.loop-line.invariant c.in_ok-start_form.ensures)

use Rattle.std.proofs.Common.{◌<◌, ◌+◌, List, Option, false, get_or, length, sym, subst, ap, arith, ◌∙◌}
use Rattle.dependency_graph.specs.declared.node.Sig.{Sig}
use Rattle.dependency_graph.specs.declared.node.Sig.TheVariants.{Const}
use Rattle.linear_forms.specs.Forms.{FormView}
use Rattle.circuit_verify.specs.Compared.{ComparedView, comparison}
use Rattle.circuit_verify.specs.Comparisons.{start_on}
use Rattle.sum_verify.specs.inside.Forms.{AreFormsOf}
use Rattle.sum_verify.specs.inside.Nodes.{IsSigForm}
use Rattle.sum_verify.proofs.FormLemmas.{forms_later}
use Rattle.sum_verify.proofs.NodeLemmas.{IsReached, first_outputs, outputs_more}
use Rattle.sum_verify.proofs.outputs.output_forms.Goals as goal

pub loop-sig-preserved : goal.loop-sig-preserved
loop-sig-preserved c =
    let v = c.args.compared.now in
    let q = comparison v in
    let t = c.node_forms.new.products in
    let lines = c.args.lines.now in
    let nodes = c.in_ok-nodes.nodes.items in
    let i = c.loop-sig.sig-index in
    let form = c.in_ok-sig_form.field-0 in
    let sigs = c.outputs-sig-items.ensures.outputs ∙ ap (λ (w : ComparedView). w.graph.outputs) c.compared.view_is in
    let low : i < length v.graph.outputs = omega (arith, c.loop-sig-test.true, ap (λ (xs : List Sig). length xs) sigs) in
    let reached : IsReached v t lines nodes (length v.graph.nodes) = record {
      ready = c.variables.ensures.ready;
      lines_are = forms_later q c.args.products.now t v.circuit.lines lines (start_on q) c.in_ok-nodes.ensures.extends c.requires.lines;
      nodes_are = c.in_ok-nodes.ensures.nodes;
    } in
    let made = subst (λ (xs : List Sig). IsSigForm lines nodes (get_or xs i (Const false)) form) sigs
    (subst (λ (ns : List (Option FormView)). IsSigForm lines ns (get_or c.outputs-sig-items.result.now i (Const false)) form) c.deref.ensures.value
    c.in_ok-sig_form.ensures) in
    subst (λ (fs : List FormView). AreFormsOf q t (i + 1) fs (first_outputs v (i + 1))) (sym {A = List FormView} c.in_ok-push.ensures.items)
    (outputs_more v t lines nodes c.loop-sig.outputs.items i (Const false) form reached low made c.loop-sig.invariant)

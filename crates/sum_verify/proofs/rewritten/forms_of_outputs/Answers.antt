use Rattle.std.proofs.Common.{◌≡◌, ◌+◌, List, Some, ap, arith, length, refl, slice_get, subst, sym, ◌∙◌}
use Rattle.std.proofs.lemmas.Option.{slice_get_read}
use Rattle.bit_sums.specs.Sums.{SumView}
use Rattle.linear_forms.specs.Forms.{FormView}
use Rattle.product_sums.proofs.TableLemmas.{extends_further, extends_same}
use Rattle.circuit_verify.specs.Compared.{comparison}
use Rattle.circuit_verify.specs.Comparisons.{start_on}
use Rattle.sum_verify.specs.inside.Forms.{AreFormsOf}
use Rattle.sum_verify.specs.inside.Rewritten.{bits_of_nodes}
use Rattle.sum_verify.proofs.FormLemmas.{all_determined, forms_later, variables_later}
use Rattle.sum_verify.proofs.RewrittenLemmas.{IsReached, first_sums, output_known, outputs_begun, outputs_done, outputs_next, sum_placed}
use Rattle.sum_verify.proofs.rewritten.forms_of_outputs.Goals as goal
use Rattle.sum_verify.proofs.rewritten.forms_of_outputs.Goals.{After-sum-item}

reached : (c : After-sum-item)
    → IsReached c.args.compared.now c.loop-sum.products c.args.lines.now c.args.nodes.now c.args.graph.now.inputs (length c.args.graph.now.nodes)
    c.args.graph.now.nodes
reached c =
    let v = c.args.compared.now in
    let q = comparison v in
    let g = c.args.graph.now in
    let old = c.args.products.now in
    let now = c.loop-sum.products in
    record {
      ready = c.variables.ensures.ready;
      inputs = c.requires.graph.inputs;
      lines_are = forms_later q old now v.circuit.lines c.args.lines.now (start_on q) c.loop-sum.invariant.0 c.requires.lines;
      nodes_are = forms_later q old now (length g.nodes) c.args.nodes.now (bits_of_nodes v g.nodes) c.loop-sum.invariant.0 c.requires.nodes;
    }

at : (c : After-sum-item) → slice_get c.args.graph.now.outputs c.loop-sum.sum-index ≡ Some c.sum-item.result
at c =
    let sums = c.outputs-sum-items.result.now in
    ap (λ (l : List SumView). slice_get l c.loop-sum.sum-index) (sym c.outputs-sum-items.ensures.outputs)
    ∙ slice_get_read sums (length sums) c.loop-sum.sum-index _ refl c.loop-sum-test.true c.sum-item.is

pub loop-sum-init : goal.loop-sum-init
loop-sum-init c = (extends_same _, rw c.new-outputs.ensures.items (outputs_begun c.args.compared.now _ c.args.graph.now))

pub sum_form-requires-clause-known : goal.sum_form-requires-clause-known
sum_form-requires-clause-known c =
    let here = (goal.at.sum_form-requires-clause-known c).After-sum-item in
    let g = c.args.graph.now in
    sum_placed c.args.compared.now _ _ _ _ _ _ c.sum-item.result (reached here)
    (output_known g c.loop-sum.sum-index c.sum-item.result c.requires.graph.keeps (at here))

pub sum_form-requires-clause-lines : goal.sum_form-requires-clause-lines
sum_form-requires-clause-lines c =
    let here = (goal.at.sum_form-requires-clause-lines c).After-sum-item in
    let v = c.args.compared.now in
    let q = comparison v in
    all_determined q c.loop-sum.products v.circuit.lines c.args.lines.now (start_on q)
    (variables_later q c.args.products.now c.loop-sum.products c.loop-sum.invariant.0 c.requires.variables) (reached here).lines_are

pub sum_form-requires-clause-nodes : goal.sum_form-requires-clause-nodes
sum_form-requires-clause-nodes c =
    let here = (goal.at.sum_form-requires-clause-nodes c).After-sum-item in
    let v = c.args.compared.now in
    let q = comparison v in
    let g = c.args.graph.now in
    all_determined q c.loop-sum.products (length g.nodes) c.args.nodes.now (bits_of_nodes v g.nodes)
    (variables_later q c.args.products.now c.loop-sum.products c.loop-sum.invariant.0 c.requires.variables) (reached here).nodes_are

pub loop-sum-preserved : goal.loop-sum-preserved
loop-sum-preserved c =
    let here = (goal.at.loop-sum-preserved c).After-sum-item in
    let v = c.args.compared.now in
    let q = comparison v in
    let g = c.args.graph.now in
    let i = c.loop-sum.sum-index in
    let now = c.sum_form.new.products in
    let next = outputs_next v c.loop-sum.products now c.args.lines.now c.args.nodes.now c.loop-sum.outputs.items g i c.sum-item.result
    c.in_ok-sum_form.field-0 (reached here) c.requires.graph.keeps c.in_ok-sum_form.ensures.extends (at here) c.in_ok-sum_form.ensures.form
    c.loop-sum.invariant.1 in (
      extends_further c.args.products.now c.loop-sum.products now c.loop-sum.invariant.0 c.in_ok-sum_form.ensures.extends,
      subst (λ (fs : List FormView). AreFormsOf q now (i + 1) fs (first_sums v g (i + 1))) (sym {A = List FormView} c.in_ok-push.ensures.items) next,
    )

pub returns-clause-outputs : goal.returns-clause-outputs
returns-clause-outputs c =
    let size = ap (λ (l : List SumView). length l) c.outputs-sum-items.ensures.outputs in
    outputs_done c.args.compared.now c.loop-sum.products c.args.graph.now c.loop-sum.sum-index c.loop-sum.outputs.items
    (omega (arith, c.loop-sum-test.false, size, c.loop-sum.auto.sum-index-end)) c.requires.graph c.loop-sum.invariant.1

use Rattle.std.proofs.Common.{◌≡◌, List, length, drop, subst, sym, ◌∙◌, arith}
use Rattle.std.proofs.lemmas.List.{take-append-le, take_all}
use Rattle.linear_forms.specs.Forms.{FormView}
use Rattle.product_sums.specs.Products.{Extends, ProductsView}
use Rattle.claim_check.specs.Settled.{settled_outputs}
use Rattle.mct_circuit.specs.Gates.{line_map}
use Rattle.circuit_verify.specs.Compared.{comparison}
use Rattle.circuit_verify.specs.Comparisons.{input_bits, start_on}
use Rattle.sum_verify.specs.inside.Forms.{AreFormsOf}
use Rattle.sum_verify.proofs.FormLemmas.{forms_later}
use Rattle.sum_verify.proofs.StartLemmas.{starts_stand}
use Rattle.sum_verify.proofs.verifying.verify_forms.Goals as goal

pub output_forms_by-requires-clause-lines : goal.output_forms_by-requires-clause-lines
output_forms_by-requires-clause-lines c =
    rw c.deref.ensures.value
    (starts_stand (comparison c.args.compared.now) c.new-products.result c.in_ok-lines.lines.items c.variables.ensures.ready.comparable.lines
    c.in_ok-lines.ensures)

pub walk-requires-clause-start : goal.walk-requires-clause-start
walk-requires-clause-start c =
    rw c.deref_mut.ensures.value
    (starts_stand (comparison c.args.compared.now) c.limit_atoms.new.self c.in_ok-lines.lines.items c.variables.ensures.ready.comparable.lines
    c.in_ok-lines.ensures)

pub judge-requires-clause-outputs : goal.judge-requires-clause-outputs
judge-requires-clause-outputs c =
    let v = c.args.compared.now in
    let q = comparison v in
    let more = subst (λ (t : ProductsView). Extends t c.walk.new.products) c.limit_atoms.ensures c.in_ok-walk.ensures.extends in
    rw c.deref-2.ensures.value
    (forms_later q c.output_forms_by.new.products c.walk.new.products (length v.graph.outputs) c.in_ok-outputs.outputs.items
    (λ bits. settled_outputs v.graph (input_bits q bits)) more c.in_ok-outputs.ensures.outputs)

pub judge-requires-clause-lines : goal.judge-requires-clause-lines
judge-requires-clause-lines c =
    let v = c.args.compared.now in
    let q = comparison v in
    let now = c.walk.new.lines in
    let count = c.in_ok-lines.lines.len in
    let size : count ≡ length now = omega (arith, c.walk.auto.lines, c.deref_mut.ensures.len) in
    let whole = take-append-le count now (drop (length now) c.in_ok-lines.lines.items) (omega (arith, size)) ∙ take_all count now (omega (arith, size)) in
    subst (λ (fs : List FormView). AreFormsOf q c.walk.new.products v.circuit.lines fs (λ bits. line_map v.circuit.gates (start_on q bits)))
    (sym {A = List FormView} (c.deref-3.ensures.value ∙ whole)) c.in_ok-walk.ensures.ends

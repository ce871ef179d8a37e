use Rattle.std.proofs.Common.{ap, ◌∙◌, arith}
use Rattle.circuit_verify.specs.Compared.{ComparedView, comparison}
use Rattle.sum_verify.proofs.StartLemmas.{borrowed_atom_is, no_atom}
use Rattle.sum_verify.proofs.start.atom_at.Goals as goal

pub returns-then-line-borrowed : goal.returns-then-line-borrowed
returns-then-line-borrowed c =
    borrowed_atom_is (comparison c.args.compared.now) c.args.line c.lines.result c.compared.inside.borrow c.inputs.result c.output_variables.result
    (c.lines.ensures.lines ∙ ap (λ (w : ComparedView). w.circuit.lines) c.compared.view_is) (ap (λ (w : ComparedView). w.borrow) c.compared.view_is)
    c.inputs.ensures c.output_variables.ensures.count c.variables.ensures.ready.comparable.lines c.if-line-borrowed.true c.requires

pub returns : goal.returns
returns c =
    let lines = c.lines.ensures.lines ∙ ap (λ (w : ComparedView). w.circuit.lines) c.compared.view_is in
    let borrow = ap (λ (w : ComparedView). w.borrow) c.compared.view_is in
    no_atom (comparison c.args.compared.now) c.args.line c.variables.ensures.ready.comparable.lines
    (omega (arith, c.if-line-held.false, c.inputs.ensures, c.output_variables.ensures.count))
    (omega (arith, c.if-line-borrowed.false, lines, borrow))

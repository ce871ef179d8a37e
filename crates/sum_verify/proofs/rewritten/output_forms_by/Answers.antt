use Rattle.circuit_verify.specs.Compared.{comparison}
use Rattle.circuit_verify.specs.Comparisons.{start_on}
use Rattle.sum_verify.proofs.FormLemmas.{forms_later}
use Rattle.sum_verify.proofs.rewritten.output_forms_by.Goals as goal

pub forms_of_outputs-requires-clause-lines : goal.forms_of_outputs-requires-clause-lines
forms_of_outputs-requires-clause-lines c =
    let v = c.args.compared.now in
    forms_later (comparison v) c.args.products.now c.forms_of_nodes.new.products v.circuit.lines c.args.lines.now (start_on (comparison v))
    c.in_ok-nodes-in-Some.ensures.extends c.requires.lines

use Rattle.circuit_verify.specs.Compared.{comparison}
use Rattle.circuit_verify.specs.Comparisons.{start_on}
use Rattle.sum_verify.proofs.FormLemmas.{forms_later}
use Rattle.sum_verify.proofs.nodes.node_forms.Goals as goal

pub add_node-requires-clause-lines : goal.add_node-requires-clause-lines
add_node-requires-clause-lines c =
    let v = c.args.compared.now in
    forms_later (comparison v) c.args.products.now c.loop-k.products v.circuit.lines c.args.lines.now (start_on (comparison v)) c.loop-k.invariant.0
    c.requires.lines

use Rattle.std.proofs.Common.{◌+◌, List, arith, subst, sym, take}
use Rattle.linear_forms.specs.Forms.{FormView}
use Rattle.product_sums.specs.Products.{Extends, ProductsView}
use Rattle.product_sums.proofs.TableLemmas.{extends_further, extends_same}
use Rattle.circuit_verify.specs.Compared.{comparison}
use Rattle.circuit_verify.specs.Comparisons.{start_on}
use Rattle.sum_verify.specs.inside.Rewritten.{AreNodesOf, bits_of_nodes}
use Rattle.sum_verify.proofs.FormLemmas.{all_determined, forms_later, variables_later}
use Rattle.sum_verify.proofs.RewrittenLemmas.{IsReached, node_known, nodes_begun, nodes_done, nodes_next, sum_placed}
use Rattle.sum_verify.proofs.rewritten.forms_of_nodes.Goals as goal
use Rattle.sum_verify.proofs.rewritten.forms_of_nodes.Goals.{After-node}

reached : (c : After-node)
    → IsReached c.args.compared.now c.loop-k.products c.args.lines.now c.loop-k.nodes.items c.args.graph.now.inputs c.loop-k.k
    (take c.loop-k.k c.args.graph.now.nodes)
reached c =
    let v = c.args.compared.now in
    record {
      ready = c.variables.ensures.ready;
      inputs = c.requires.graph.inputs;
      lines_are = forms_later (comparison v) c.args.products.now c.loop-k.products v.circuit.lines c.args.lines.now
          (start_on (comparison v)) c.loop-k.invariant.0 c.requires.lines;
      nodes_are = c.loop-k.invariant.1;
    }

pub loop-k-init : goal.loop-k-init
loop-k-init c = (extends_same _, rw c.new-nodes.ensures.items (nodes_begun c.args.compared.now _ c.args.graph.now))

pub sum_form-requires-clause-known : goal.sum_form-requires-clause-known
sum_form-requires-clause-known c =
    let here = (goal.at.sum_form-requires-clause-known c).After-node in
    let g = c.args.graph.now in
    rw c.deref.ensures.value
    (sum_placed c.args.compared.now _ _ _ _ _ _ c.node.result.now (reached here)
    (node_known g c.loop-k.k c.node.result.now c.requires.graph.keeps c.node.ensures))

pub sum_form-requires-clause-lines : goal.sum_form-requires-clause-lines
sum_form-requires-clause-lines c =
    let here = (goal.at.sum_form-requires-clause-lines c).After-node in
    let v = c.args.compared.now in
    let q = comparison v in
    all_determined q c.loop-k.products v.circuit.lines c.args.lines.now (start_on q)
    (variables_later q c.args.products.now c.loop-k.products c.loop-k.invariant.0 c.requires.variables) (reached here).lines_are

pub sum_form-requires-clause-nodes : goal.sum_form-requires-clause-nodes
sum_form-requires-clause-nodes c =
    let v = c.args.compared.now in
    let q = comparison v in
    rw c.deref.ensures.value
    (all_determined q c.loop-k.products c.loop-k.k c.loop-k.nodes.items (bits_of_nodes v (take c.loop-k.k c.args.graph.now.nodes))
    (variables_later q c.args.products.now c.loop-k.products c.loop-k.invariant.0 c.requires.variables) c.loop-k.invariant.1)

pub loop-k-preserved : goal.loop-k-preserved
loop-k-preserved c =
    let here = (goal.at.loop-k-preserved c).After-node in
    let v = c.args.compared.now in
    let g = c.args.graph.now in
    let k = c.loop-k.k in
    let now = c.sum_form.new.products in
    let same = sym c.hold.ensures in
    let made = rw c.deref.ensures.value at c.in_ok-form.ensures.form in
    let next = nodes_next v c.loop-k.products now c.args.lines.now c.loop-k.nodes.items g k c.node.result.now c.in_ok-form.form (reached here)
    c.requires.graph.keeps c.in_ok-form.ensures.extends c.node.ensures made in (
      subst (Extends c.args.products.now) same
          (extends_further c.args.products.now c.loop-k.products now c.loop-k.invariant.0 c.in_ok-form.ensures.extends),
      subst (λ (t : ProductsView). AreNodesOf v t (k + 1) (take (k + 1) g.nodes) c.push.new.self.items) same
          (subst (λ (fs : List FormView). AreNodesOf v now (k + 1) (take (k + 1) g.nodes) fs) (sym {A = List FormView} c.in_ok-push.ensures.items) next),
    )

pub returns-clause-nodes : goal.returns-clause-nodes
returns-clause-nodes c =
    nodes_done c.args.compared.now c.loop-k.products c.args.graph.now c.loop-k.k c.loop-k.nodes.items
    (omega (arith, c.loop-k-test.false, c.nodes-count.ensures.nodes, c.loop-k.auto.k-end)) c.loop-k.invariant.1

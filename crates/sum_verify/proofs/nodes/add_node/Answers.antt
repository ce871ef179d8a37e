use Rattle.std.proofs.Common.{◌≡◌, ◌+◌, List, [], ◌∷◌, ◌++◌, Option, Some, length, drop, slice_get, sym, subst, ap, ◌∙◌, arith, length-append}
use Rattle.std.specs.List.{AllByRecursion}
use Rattle.std.proofs.lemmas.List.{take-append-le, take_all}
use Rattle.dependency_graph.specs.Graphs.{IsKnownBase, operands}
use Rattle.linear_forms.specs.Forms.{FormView}
use Rattle.product_sums.specs.Products.{ProductsView}
use Rattle.claim_check.proofs.NodeLemmas.{known_at}
use Rattle.circuit_verify.specs.Compared.{ComparedView}
use Rattle.sum_verify.specs.inside.Nodes.{HoldsNodes}
use Rattle.sum_verify.proofs.NodeLemmas.{IsReached, bases_determined, node_placed, node_stands, nodes_kept, nodes_more, operands_placed}
use Rattle.sum_verify.proofs.nodes.add_node.Goals as goal
use Rattle.sum_verify.proofs.nodes.add_node.Goals.{After-deref_mut, After-node-node}

reached : (c : After-node-node) → IsReached c.args.compared.now c.args.products.now c.args.lines.now c.args.nodes.now.items c.args.k
reached c = record { ready = c.variables.ensures.ready; lines_are = c.requires.lines; nodes_are = c.requires.nodes }

at : (c : After-node-node) → slice_get c.args.compared.now.graph.nodes c.args.k ≡ Some c.node-node.result
at c = subst (λ (w : ComparedView). slice_get w.graph.nodes c.args.k ≡ Some c.node-node.result) c.compared.view_is c.node-node.ensures

-- the nodes with the new one
longer : (c : After-deref_mut) → c.deref_mut.result.now ≡ c.args.nodes.now.items ++ Some c.in_ok-form.form ∷ []
longer c = c.deref_mut.ensures.value ∙ c.in_ok-push.ensures.items

pub node_form-requires-clause-known : goal.node_form-requires-clause-known
node_form-requires-clause-known c =
    let here = (goal.at.node_form-requires-clause-known c).After-node-node in
    rw c.deref.ensures.value
    (node_placed c.args.compared.now c.args.products.now c.args.lines.now c.args.nodes.now.items c.args.k c.node-node.result (reached here) (at here))

pub node_form-requires-clause-determined : goal.node_form-requires-clause-determined
node_form-requires-clause-determined c =
    let here = (goal.at.node_form-requires-clause-determined c).After-node-node in
    rw c.deref.ensures.value
    (bases_determined c.args.compared.now c.args.products.now c.args.lines.now c.args.nodes.now.items c.args.k c.requires.variables (reached here))

pub let_go_used-requires-clause-operands : goal.let_go_used-requires-clause-operands
let_go_used-requires-clause-operands c =
    let there = goal.at.let_go_used-requires-clause-operands c in
    let many : length c.deref_mut.result.now ≡ length c.args.nodes.now.items + 1 =
    ap (λ (ns : List (Option FormView)). length ns) (longer there.After-deref_mut) ∙ length-append c.args.nodes.now.items (Some c.in_ok-form.form ∷ []) in
    subst (λ (w : ComparedView). AllByRecursion (IsKnownBase w.graph.inputs (length c.deref_mut.result.now)) (operands c.node-node.result))
    (sym c.compared.view_is)
    (operands_placed c.args.compared.now c.args.k (length c.deref_mut.result.now) c.node-node.result c.variables.ensures.ready
    (omega (arith, many, c.requires.nodes.one_each)) (at there.After-node-node))

pub returns-clause-nodes : goal.returns-clause-nodes
returns-clause-nodes c =
    let there = goal.at.returns-clause-nodes c in
    let v = c.args.compared.now in
    let old = c.args.products.now in
    let now = c.node_form.new.products in
    let nodes = c.args.nodes.now.items in
    let k = c.args.k in
    let node = c.node-node.result in
    let form = c.in_ok-form.form in
    let made = rw c.deref.ensures.value at c.in_ok-form.ensures.form in
    let known = known_at v.graph.inputs k v.graph.nodes node c.variables.ensures.ready.settled.nodes (at there.After-node-node) in
    let stands = node_stands v old now c.args.lines.now nodes k node form (reached there.After-node-node) c.in_ok-form.ensures.extends
    (at there.After-node-node) known made in
    let holds = subst (λ (ns : List (Option FormView)). HoldsNodes v now (k + 1) ns) (sym (longer there.After-deref_mut))
    (nodes_more v old now nodes k form c.in_ok-form.ensures.extends c.requires.nodes stands) in
    let left = c.let_go_used.new.nodes in
    let count = c.push.new.self.len in
    let size : count ≡ length left = omega (arith, c.let_go_used.ensures.kept.one_each, c.deref_mut.ensures.len) in
    let whole = take-append-le count left (drop (length left) c.push.new.self.items) (omega (arith, size)) ∙ take_all count left (omega (arith, size)) in
    subst (λ (ns : List (Option FormView)). HoldsNodes v c.let_go_used.new.products (k + 1) ns) (sym whole)
    (subst (λ (t : ProductsView). HoldsNodes v t (k + 1) left) (sym (c.let_go_used.ensures.same ∙ c.hold.ensures))
    (nodes_kept v now (k + 1) c.deref_mut.result.now left c.let_go_used.ensures.kept holds))

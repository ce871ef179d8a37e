use Rattle.std.proofs.Common.{◌+◌, ◌≤◌, ap, length, refl, arith}
use Rattle.few_products.proofs.CountLemmas.{one_counted}
use Rattle.sum_graph.specs.Graphs.{products_in}
use Rattle.program_commands.proofs.AndsLemmas.{counted_within}
use Rattle.program_commands.proofs.ands.products_of.Goals as goal

pub overflow_cast-count : goal.overflow_cast-count
overflow_cast-count c =
    let few : c.loop-node.count + length c.products.result.now ≤ products_in c.args.graph.now.nodes =
    counted_within c.args.graph.now.nodes c.loop-node.node _ _ _ c.node.ensures c.loop-node.invariant (ap length c.products.ensures) in
    omega (arith, few, c.requires)

pub overflow_add-count : goal.overflow_add-count
overflow_add-count c =
    let few : c.loop-node.count + length c.products.result.now ≤ products_in c.args.graph.now.nodes =
    counted_within c.args.graph.now.nodes c.loop-node.node _ _ _ c.node.ensures c.loop-node.invariant (ap length c.products.ensures) in
    omega (arith, few, c.requires)

pub loop-node-preserved : goal.loop-node-preserved
loop-node-preserved c =
    one_counted c.args.graph.now.nodes c.loop-node.node _ _ _ _ c.node.ensures c.loop-node.invariant (ap length c.products.ensures) refl

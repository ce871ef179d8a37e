use Rattle.std.proofs.Common.{arith, ◌∙◌}
use Rattle.std.proofs.lemmas.List.{take_all}
use Rattle.few_products.proofs.DefinitionLemmas.{node_next}
use Rattle.few_products.proofs.definitions.nodes_of.Goals as goal

pub loop-node-init : goal.loop-node-init
loop-node-init c = c.new-all.ensures.items

pub loop-node-preserved : goal.loop-node-preserved
loop-node-preserved c = node_next _ _ _ c.loop-node.node _ _ c.node.ensures c.in_ok-of.ensures c.in_ok-push.ensures.items c.loop-node.invariant

pub returns : goal.returns
returns c = c.loop-node.invariant ∙ take_all c.loop-node.node _ (omega (arith, c.loop-node-test.false, c.nodes-node-end.ensures.nodes))

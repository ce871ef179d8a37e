use Rattle.few_products.specs.inside.Definitions.{AreBegun}
use Rattle.few_products.proofs.definitions.nodes_and_outputs.Given as goal

abbrev pub invariant-loop-sum : goal.invariant-loop-sum
invariant-loop-sum l = AreBegun l.graph l.sum-index l.all.items

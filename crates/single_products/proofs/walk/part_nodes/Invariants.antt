use Rattle.single_products.specs.inside.Parting.{AreNodesParted}
use Rattle.single_products.proofs.walk.part_nodes.Given as goal

abbrev pub invariant-loop-n : goal.invariant-loop-n
invariant-loop-n l = AreNodesParted l.graph l.n l.places.items l.nodes.keys

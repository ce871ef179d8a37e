use Rattle.single_products.specs.inside.Parting.{AreOutputsParted}
use Rattle.single_products.proofs.walk.part_outputs.Given as goal

abbrev pub invariant-loop-sum : goal.invariant-loop-sum
invariant-loop-sum l = AreOutputsParted l.graph l.sum-index l.places l.nodes.keys l.sums.items

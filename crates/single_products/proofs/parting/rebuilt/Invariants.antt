use Rattle.single_products.specs.inside.Parting.{IsRebuiltTo}
use Rattle.single_products.proofs.parting.rebuilt.Given as goal

abbrev pub invariant-loop-k : goal.invariant-loop-k
invariant-loop-k l = IsRebuiltTo l.k l.kept l.places l.sum l.fn.nodes.keys l.nodes.keys l.whole

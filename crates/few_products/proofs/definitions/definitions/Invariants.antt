use Rattle.few_products.specs.inside.Definitions.{AreDefinitions}
use Rattle.few_products.proofs.definitions.definitions.Given as goal

abbrev pub invariant-loop-sum : goal.invariant-loop-sum
invariant-loop-sum l = AreDefinitions l.graph l.all.items

use Rattle.few_products.specs.inside.Definitions.{AreKept}
use Rattle.few_products.proofs.replay.replay.Given as goal

abbrev pub invariant-loop-step : goal.invariant-loop-step
invariant-loop-step l = AreKept l.fn.definitions.items l.definitions.items

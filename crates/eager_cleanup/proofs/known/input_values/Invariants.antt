use Rattle.std.proofs.Common.{◌≡◌, length}
use Rattle.eager_cleanup.specs.inside.Known.{AreInputValues}
use Rattle.eager_cleanup.proofs.known.input_values.Given as goal

abbrev pub invariant-loop-input : goal.invariant-loop-input
invariant-loop-input l = (length l.inputs.items ≡ l.input) × AreInputValues l.inputs.items

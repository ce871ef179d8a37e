use Rattle.std.proofs.Common.{◌≡◌}
use Rattle.few_products.specs.inside.Writing.{HasWritten}
use Rattle.few_products.proofs.writing.nodes_in_order.Given as goal

abbrev pub invariant-loop-node : goal.invariant-loop-node
invariant-loop-node l = (l.written.inputs ≡ l.inputs) × HasWritten l.definitions l.written

use Rattle.std.proofs.Common.{◌≡◌}
use Rattle.few_products.proofs.WritingLemmas.{AreOutputs}
use Rattle.few_products.proofs.writing.outputs_from.Given as goal

abbrev pub invariant-loop-number : goal.invariant-loop-number
invariant-loop-number l =
    (l.written.inputs ≡ l.fn.written.inputs)
    × AreOutputs l.written.inputs l.definitions l.written.places.items l.first l.number l.written.nodes.keys l.sums.items

use Rattle.std.proofs.Common.{take}
use Rattle.bit_sums.specs.Sums.{AreAll}
use Rattle.sum_graph.specs.Graphs.{is_known}
use Rattle.few_products.proofs.definitions.are_known.Given as goal

abbrev pub invariant-loop-base : goal.invariant-loop-base
invariant-loop-base l = AreAll (is_known l.inputs l.nodes) (take l.base-index l.bits)

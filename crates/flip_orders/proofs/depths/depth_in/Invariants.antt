use Rattle.std.proofs.Common.{take}
use Rattle.flip_lists.specs.Flips.{gates_of}
use Rattle.flip_orders.specs.inside.Depths.{weight_for}
use Rattle.flip_orders.proofs.DepthLemmas.{AreCounted}
use Rattle.flip_orders.proofs.depths.depth_in.Given as goal

abbrev pub invariant-loop-flip : goal.invariant-loop-flip
invariant-loop-flip l = AreCounted l.fn.lines (weight_for l.fn.counting) (gates_of (take l.flip-index l.flips)) l.depths.items l.greatest

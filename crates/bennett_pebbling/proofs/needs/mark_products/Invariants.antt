use Rattle.std.proofs.Common.{take}
use Rattle.std.specs.List.{flat_map}
use Rattle.dependency_graph.specs.Graphs.{nodes_among}
use Rattle.bit_sums.specs.Sums.{product_bases}
use Rattle.bennett_pebbling.specs.inside.Marks.{HasMarked}
use Rattle.bennett_pebbling.proofs.needs.mark_products.Given as goal

abbrev pub invariant-loop-product : goal.invariant-loop-product
invariant-loop-product l = HasMarked l.lo (nodes_among (flat_map product_bases (take l.product-index l.products))) l.initial.marks l.marks

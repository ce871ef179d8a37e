use Rattle.std.specs.BinaryHeap.{heap_items}
use Rattle.held_nodes.proofs.FreeLineLemmas.{seen_new}
use Rattle.held_nodes.proofs.heap.Heap.new.Goals as goal

pub returns : goal.returns
returns c = seen_new c.args.limit (heap_items c.in_ok-with_capacity.field-0) c.in_ok-with_capacity.ensures.items

use Rattle.std.proofs.Common.{◌≡◌, [], replicate}
use Rattle.flip_lists.specs.inside.Index.{contents}
use Rattle.flip_lists.proofs.index.empty_lists.Given as goal

abbrev pub invariant-loop-list : goal.invariant-loop-list
invariant-loop-list l = contents l.lists.items ≡ replicate l._list []

use Rattle.std.proofs.Common.{◌≡◌, ◌+◌, ◌++◌, drop}
use Rattle.held_nodes.specs.Moves.{copies_from}
use Rattle.held_nodes.proofs.copying.copies_of.Given as goal

abbrev pub invariant-loop-k : goal.invariant-loop-k
invariant-loop-k l =
    l.copies.items ++ copies_from l.first l.lines (l.inputs + l.k) (drop l.k l.outputs) ≡ copies_from l.first l.lines l.inputs l.outputs

use Rattle.std.proofs.Common.{subst}
use Rattle.held_nodes.specs.inside.Lines.{IsLineHeap}
use Rattle.held_nodes.proofs.FreeLineLemmas.{IsLineHeap-seen}
use Rattle.held_nodes.proofs.heap.Heap.peak.Goals as goal

pub returns-clause-lines : goal.returns-clause-lines
returns-clause-lines c = subst IsLineHeap c.self.view_is (IsLineHeap-seen _ _ _ c.self.invariant.lines)

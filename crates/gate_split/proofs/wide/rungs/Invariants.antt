use Rattle.std.proofs.Common.{◌≡◌, ◌++◌, ◌+◌, ◌≤◌, take, reverse, length}
use Rattle.std.specs.List.{AllByRecursion}
use Rattle.mct_circuit.specs.Gates.{HasDifferentLines}
use Rattle.gate_split.specs.Split.{ladder}
use Rattle.gate_split.proofs.wide.rungs.Given as goal

abbrev pub decreases-loop-i : goal.decreases-loop-i
decreases-loop-i l = l.i

abbrev pub invariant-loop-i : goal.invariant-loop-i
invariant-loop-i l =
    (l.rungs.items ++ ladder l.top (reverse (take (l.i + 2) l.flip.controls.now)) (reverse (take l.i l.idle))
    ≡ ladder l.flip.target (reverse l.flip.controls.now) (reverse l.idle))
    × AllByRecursion HasDifferentLines (ladder l.top (reverse (take (l.i + 2) l.flip.controls.now)) (reverse (take l.i l.idle)))
    × (l.i ≤ length l.idle)

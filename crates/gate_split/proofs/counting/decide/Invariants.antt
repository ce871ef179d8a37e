use Rattle.std.proofs.Common.{◌≡◌, ◌≤◌, take}
use Rattle.gate_split.proofs.CountLemmas.{Counted}
use Rattle.gate_split.proofs.counting.decide.Given as goal

abbrev pub invariant-loop-gate : goal.invariant-loop-gate
invariant-loop-gate l =
    Counted l.lines l.count (take l.gate-index l.gate-items) × (l.place ≡ l.gate-index) × (l.count ≤ l.limit)

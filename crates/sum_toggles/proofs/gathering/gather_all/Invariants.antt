use Rattle.std.proofs.Common.{◌≡◌, ◌++◌, drop}
use Rattle.sum_toggles.specs.Toggles.{base_line, gathers}
use Rattle.sum_toggles.proofs.gathering.gather_all.Given as goal

abbrev pub invariant-loop-base : goal.invariant-loop-base
invariant-loop-base l =
    l.gates.items ++ gathers (base_line l.on.first l.on.lines.now) l.own (drop l.base-index l.bits)
    ≡ l.initial.gates.items ++ gathers (base_line l.on.first l.on.lines.now) l.own l.bits

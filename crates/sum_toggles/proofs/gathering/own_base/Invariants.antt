use Rattle.std.proofs.Common.{◌≡◌, drop}
use Rattle.sum_toggles.specs.Toggles.{last_own}
use Rattle.sum_toggles.proofs.gathering.own_base.Given as goal

abbrev pub invariant-loop-base : goal.invariant-loop-base
invariant-loop-base l = last_own l.other l.own (drop l.base-index l.bits) ≡ last_own l.other l.initial.own l.bits

use Rattle.std.proofs.Common.{◌≡◌, take}
use Rattle.circuit_verify.proofs.judging.first_difference.Given as goal

abbrev pub invariant-loop-line : goal.invariant-loop-line
invariant-loop-line l = take l.line l.now ≡ take l.line l.want

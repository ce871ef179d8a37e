use Rattle.std.proofs.Common.{◌≡◌, ◌+◌, ◌^◌, ◌<◌, ◌++◌, drop, length}
use Rattle.std.specs.Fmt.{decimal}
use Rattle.revc_io.proofs.decimal.put_decimal.Given as goal

abbrev pub invariant-loop-left : goal.invariant-loop-left
invariant-loop-left g l = record {
  size : length l.digits ≡ 20;
  at_in : l.at < 20;
  few : l.left < 10 ^ (l.at + 1);
  parts : decimal l.n ≡ decimal l.left ++ drop (l.at + 1) l.digits;
}

abbrev pub decreases-loop-left : goal.decreases-loop-left
decreases-loop-left g l = l.left

use Rattle.std.proofs.Common.{◌≡◌, ◌++◌, drop}
use Rattle.gate_split.specs.Split.{flips_of_negatives}
use Rattle.gate_split.proofs.piece.push_negatives.Given as goal

abbrev pub invariant-loop-control : goal.invariant-loop-control
invariant-loop-control l = l.gates.items ++ flips_of_negatives (drop l.control-index l.controls) ≡ l.fn.gates.items ++ flips_of_negatives l.controls

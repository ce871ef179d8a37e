use Rattle.std.proofs.Common.{◌≡◌, map, take}
use Rattle.copied_plans.specs.inside.Copied.{copied_output}
use Rattle.copied_plans.proofs.copying.copied_outputs.Given as goal

abbrev pub invariant-loop-sig : goal.invariant-loop-sig
invariant-loop-sig l = l.sums.items ≡ map copied_output (take l.sig-index l.outputs)

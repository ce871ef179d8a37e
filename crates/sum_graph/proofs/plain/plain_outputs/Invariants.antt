use Rattle.std.proofs.Common.{◌≡◌, map, take}
use Rattle.sum_graph.specs.Plain.{plain_output}
use Rattle.sum_graph.proofs.plain.plain_outputs.Given as goal

abbrev pub invariant-loop-sig : goal.invariant-loop-sig
invariant-loop-sig l = l.sums.items ≡ map plain_output (take l.sig-index l.outputs)

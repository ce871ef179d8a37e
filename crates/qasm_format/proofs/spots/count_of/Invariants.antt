use Rattle.std.proofs.Common.{◌≡◌, None, drop}
use Rattle.qasm_format.specs.inside.Spread.{shared_by}
use Rattle.qasm_format.proofs.spots.count_of.Given as goal

abbrev pub invariant-loop-spot : goal.invariant-loop-spot
invariant-loop-spot l = shared_by None l.spots ≡ shared_by l.count (drop l.spot-index l.spots)

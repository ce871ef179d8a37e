use Rattle.std.proofs.Common.{◌≤◌, length, sum}
use Rattle.std.specs.List.{AllByRecursion}
use Rattle.revs_tape.specs.Tapes.{IsKnown}
use Rattle.in_place_circuits.proofs.searching.outputs_and_claims.Given as goal

abbrev pub invariant-loop-claim : goal.invariant-loop-claim
invariant-loop-claim l =
    AllByRecursion (IsKnown (sum l.tape.params) (length l.tape.entries)) l.all.items × (1 ≤ length l.all.items) × (length l.all.items ≤ 1024)

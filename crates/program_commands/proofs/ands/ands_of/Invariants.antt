use Rattle.std.proofs.Common.{◌≡◌, ◌≤◌, take}
use Rattle.std.specs.List.{sum_by}
use Rattle.revs_tape.specs.Measures.{and_count}
use Rattle.program_commands.proofs.ands.ands_of.Given as goal

abbrev pub invariant-loop-entry : goal.invariant-loop-entry
invariant-loop-entry l = (l.count ≡ sum_by and_count (take l.entry-index l.entry-items)) × (l.count ≤ l.entry-index)

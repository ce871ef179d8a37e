use Rattle.std.proofs.Common.{◌≡◌, drop}
use Rattle.revs_tape.specs.Tapes.{written_by}
use Rattle.revs_tape.proofs.running.append_bits.Given as goal

abbrev pub invariant-loop-entry : goal.invariant-loop-entry
invariant-loop-entry l = written_by l.input l.written.items (drop l.entry-index l.entries) ≡ written_by l.input l.initial.written.items l.entries

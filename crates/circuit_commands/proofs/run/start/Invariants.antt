use Rattle.std.proofs.Common.{◌≡◌, ◌≤◌, ◌++◌, drop}
use Rattle.command_answers.specs.BitWords.{bits_of}
use Rattle.circuit_commands.specs.Run.{started}
use Rattle.circuit_commands.proofs.run.start.Given as goal

abbrev pub invariant-loop-mark : goal.invariant-loop-mark
invariant-loop-mark l =
    (l.lines.items ++ started (drop l.mark-index l.marks) (drop l.next (bits_of l.digits)) ≡ started l.marks (bits_of l.digits)) × (l.next ≤ l.mark-index)

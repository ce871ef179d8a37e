use Rattle.std.proofs.Common.{◌+◌, length}
use Rattle.real_format.specs.inside.Says.{EndsAs}
use Rattle.real_format.proofs.reader.read_end.Given as goal

abbrev pub invariant-loop-words : goal.invariant-loop-words
invariant-loop-words l = EndsAs (l.initial.lines.number + 1) l.initial.lines.left (l.lines.number + 1) l.lines.left

abbrev pub decreases-loop-words : goal.decreases-loop-words
decreases-loop-words l = length l.lines.left

use Rattle.std.proofs.Common.{◌≡◌, length}
use Rattle.real_format.specs.Real.{in_header}
use Rattle.real_format.specs.inside.Says.{verdict_on, IsSound}
use Rattle.real_format.proofs.reader.read_header_lines.Given as goal

abbrev pub invariant-loop-words : goal.invariant-loop-words
invariant-loop-words l = record {
  left : verdict_on (in_header l.initial.header) l.initial.lines ≡ verdict_on (in_header l.header) l.lines;
  sound : IsSound l.header;
}

abbrev pub decreases-loop-words : goal.decreases-loop-words
decreases-loop-words l = length l.lines.left

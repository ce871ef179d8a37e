use Rattle.std.proofs.Common.{◌≡◌, [], drop}
use Rattle.real_format.specs.inside.Reading.{marks_from}
use Rattle.real_format.proofs.header.marks_of.Given as goal

abbrev pub invariant-loop-byte : goal.invariant-loop-byte
invariant-loop-byte g l =
    marks_from g.M.Marking.marking l.marks.items (drop l.byte-index l.word) ≡ marks_from g.M.Marking.marking [] l.word

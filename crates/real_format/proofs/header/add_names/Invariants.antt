use Rattle.std.proofs.Common.{◌≡◌, length}
use Rattle.real_format.specs.inside.Reading.{names_from}
use Rattle.real_format.proofs.header.add_names.Given as goal

abbrev pub invariant-loop-word : goal.invariant-loop-word
invariant-loop-word l = names_from l.count l.names l.words ≡ names_from l.count l.initial.names l.initial.words

abbrev pub decreases-loop-word : goal.decreases-loop-word
decreases-loop-word l = length l.words

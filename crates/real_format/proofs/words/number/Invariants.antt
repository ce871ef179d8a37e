use Rattle.std.proofs.Common.{◌≡◌, ◌+◌, ◌≤◌, drop}
use Rattle.real_format.proofs.NumberLemmas.{capped_from}
use Rattle.real_format.proofs.words.number.Given as goal

abbrev pub invariant-loop-byte : goal.invariant-loop-byte
invariant-loop-byte l =
    (capped_from l.most l.value (drop l.byte-index l.word) ≡ capped_from l.most 0 l.word) × (l.value ≤ l.most + 1)

use Rattle.std.proofs.Common.{map, string_bytes}
use Rattle.revc_words.proofs.LoopLemmas.{IsCopying}
use Rattle.revc_words.proofs.reading.bits_asked.Given as goal

abbrev pub invariant-loop-word : goal.invariant-loop-word
invariant-loop-word l = IsCopying l.words (map string_bytes l.bits.items) l.word-index

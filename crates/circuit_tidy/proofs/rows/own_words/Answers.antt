use Rattle.std.proofs.Common.{refl, ◌∙◌, ◌*◌, ◌%◌, ◌^◌, ◌<◌, ◌+◌, ap, length, arith}
use Rattle.std.proofs.lemmas.List.{length_push}
use Rattle.circuit_tidy.proofs.BitRowLemmas.{own_more}
use Rattle.circuit_tidy.proofs.rows.own_words.Goals as goal

pub loop-place-preserved : goal.loop-place-preserved
loop-place-preserved c =
    let word = 1 * 2 ^ c.loop-place.place % 2 ^ 64 in
    let small : c.loop-place.place < 64 = omega arith in (
      ap length c.in_ok-push.ensures.items ∙ length_push c.loop-place.words.items word ∙ ap (λ n. n + 1) c.loop-place.invariant.0,
      own_more c.loop-place.place c.loop-place.words.items c.push.new.self.items word small refl c.in_ok-push.ensures.items c.loop-place.invariant.1
          c.loop-place.invariant.0,
    )

use Rattle.std.proofs.Common.{◌≡◌, ◌+◌, ◌-◌, ◌*◌, min, get_or, Some, None, sym, ap, ◌∙◌, arith}
use Rattle.std.proofs.lemmas.List.{drop_all}
use Rattle.real_format.proofs.CutLemmas.{some_left}
use Rattle.real_format.proofs.NumberLemmas.{capped_from, capped_number, one_digit, no_digit}
use Rattle.real_format.proofs.words.number.Goals as goal

pub returns : goal.returns
returns c =
    let all : capped_from c.args.most 0 c.args.word.now ≡ Some c.loop-byte.value = sym c.loop-byte.invariant.0
    ∙ ap (capped_from c.args.most c.loop-byte.value) (drop_all c.loop-byte.byte-index c.args.word.now (omega arith)) in
    capped_number c.args.most c.args.word.now (Some c.loop-byte.value) (some_left _ _ c.is_empty.ensures c.if-is_empty.false) all

pub returns-then-not-is_ascii_digit : goal.returns-then-not-is_ascii_digit
returns-then-not-is_ascii_digit c =
    capped_number c.args.most c.args.word.now None (some_left _ _ c.is_empty.ensures c.if-is_empty.false)
    (no_digit c.args.most c.loop-byte.value c.args.word.now c.loop-byte.byte-index c.loop-byte-test.true
    (sym c.is_ascii_digit.ensures.value ∙ c.if-not-is_ascii_digit.true) c.loop-byte.invariant.0)

pub loop-byte-preserved : goal.loop-byte-preserved
loop-byte-preserved c =
    let next : c.min-value.result ≡ min (10 * c.loop-byte.value + (get_or c.args.word.now c.loop-byte.byte-index 0 - 48)) (c.args.most + 1) =
    c.min-value.ensures ∙ ap (λ d. min (10 * c.loop-byte.value + d) (c.args.most + 1)) c.from.ensures in (
      one_digit c.args.most c.loop-byte.value c.min-value.result c.args.word.now c.loop-byte.byte-index c.loop-byte-test.true
          (sym c.is_ascii_digit.ensures.value ∙ c.if-not-is_ascii_digit.false) next c.loop-byte.invariant.0,
      omega (arith, next),
    )

use Rattle.std.proofs.Common.{arith}
use Rattle.std.proofs.lemmas.Int.Digits.{digits_value_more}
use Rattle.std.proofs.lemmas.Grind.{pow_more}
use Rattle.text_places.proofs.DigitLemmas.{digit_at, small_power}
use Rattle.text_places.proofs.numbers.number.Goals as goal

pub overflow_mul-value : goal.overflow_mul-value
overflow_mul-value c = let power = small_power c.loop-digit.digit-index (omega arith) in omega (arith, c.loop-digit.invariant)

pub overflow_sub-digit : goal.overflow_sub-digit
overflow_sub-digit c = (digit_at c.args.digits.now c.loop-digit.digit-index c.requires.digits c.loop-digit-test.true).low

pub overflow_add-value : goal.overflow_add-value
overflow_add-value c =
    let power = small_power c.loop-digit.digit-index (omega arith) in
    let digit = digit_at c.args.digits.now c.loop-digit.digit-index c.requires.digits c.loop-digit-test.true in
    omega (arith, digit.high, digit.low, c.loop-digit.invariant)

pub loop-digit-preserved : goal.loop-digit-preserved
loop-digit-preserved c =
    let i = c.loop-digit.digit-index in
    let digit = digit_at c.args.digits.now i c.requires.digits c.loop-digit-test.true in
    let more = digits_value_more 10 c.args.digits.now i c.loop-digit-test.true in
    let power = pow_more 10 i in
    (omega (arith, digit.value, digit.low, digit.high), omega (arith, digit.low, digit.high))

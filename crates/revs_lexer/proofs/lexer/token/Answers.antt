use Rattle.std.proofs.Common.{ap, length, sym, ◌∙◌}
use Rattle.revs_lexer.proofs.LongestLemmas.{identifier_at_front, longest_name, long_name_at_front, digits_at_front, numeral_at_front, longest_number}
use Rattle.revs_lexer.proofs.LongestLemmas.{long_number_at_front, longest_sign, no_token, bad_byte_at_front}
use Rattle.revs_lexer.proofs.lexer.token.Goals as goal

pub returns-then-len-gt-MOST-clause-refused : goal.returns-then-len-gt-MOST-clause-refused
returns-then-len-gt-MOST-clause-refused c =
    long_name_at_front c.args.at c.args.text.now c.name_len-len.result c.requires.some c.name_len-len.ensures
    (sym c.is_letter.ensures ∙ c.if-is_letter.true) c.if-len-gt-MOST.true

pub name-requires-clause-identifier : goal.name-requires-clause-identifier
name-requires-clause-identifier c =
    identifier_at_front c.args.text.now c.name_len-len.result c.requires.some c.name_len-len.ensures (sym c.is_letter.ensures ∙ c.if-is_letter.true)

pub returns-then-is_letter-clause-longest : goal.returns-then-is_letter-clause-longest
returns-then-is_letter-clause-longest c =
    longest_name c.args.text.now c.name_len-len.result _ c.name_len-len.ensures
    (sym c.is_letter.ensures ∙ c.if-is_letter.true) c.name.ensures.spelled

pub returns-then-len-gt-MOST_DIGITS-clause-refused : goal.returns-then-len-gt-MOST_DIGITS-clause-refused
returns-then-len-gt-MOST_DIGITS-clause-refused c =
    long_number_at_front c.args.at c.args.text.now c.digits_len-len.result c.requires.some c.digits_len-len.ensures
    (sym c.is_ascii_digit.ensures.value ∙ c.if-is_ascii_digit.true) c.if-len-gt-MOST_DIGITS.true

pub number-requires-clause-digits : goal.number-requires-clause-digits
number-requires-clause-digits c = digits_at_front c.args.text.now c.digits_len-len.result c.digits_len-len.ensures

pub returns-then-is_ascii_digit-clause-longest : goal.returns-then-is_ascii_digit-clause-longest
returns-then-is_ascii_digit-clause-longest c =
    let digit = sym c.is_ascii_digit.ensures.value ∙ c.if-is_ascii_digit.true in
    longest_number c.args.text.now c.digits_len-len.result _ c.digits_len-len.ensures digit
    (numeral_at_front c.args.text.now c.digits_len-len.result c.requires.some c.digits_len-len.ensures digit, c.number.ensures)

pub returns-in-Some-clause-longest : goal.returns-in-Some-clause-longest
returns-in-Some-clause-longest c =
    longest_sign c.args.text.now (length c.text.result.now) c.in-Some.sign (sym c.is_letter.ensures ∙ c.if-is_letter.false)
    (sym c.is_ascii_digit.ensures.value ∙ c.if-is_ascii_digit.false) (sym c.in-Some.ensures) (ap length c.text.ensures)

pub returns-in-None-clause-refused : goal.returns-in-None-clause-refused
returns-in-None-clause-refused c =
    bad_byte_at_front c.args.at c.args.text.now c.requires.some c.requires.no_gap
    (no_token c.args.text.now (sym c.is_letter.ensures ∙ c.if-is_letter.false) (sym c.is_ascii_digit.ensures.value ∙ c.if-is_ascii_digit.false)
    (sym c.in-None.ensures))

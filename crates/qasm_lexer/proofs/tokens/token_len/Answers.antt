use Rattle.std.proofs.Common.{sym, ◌∙◌}
use Rattle.std.proofs.lemmas.List.Sums.{prefix_len-le-length}
use Rattle.qasm_lexer.proofs.LexingLemmas.{name_at_front, number_at_front, version_at_front, library_at_front, other_at_front}
use Rattle.text_places.proofs.RunLemmas.{some_text}
use Rattle.qasm_lexer.proofs.tokens.token_len.Goals as goal

pub returns-then-is_ascii_alphabetic-clause-in_range : goal.returns-then-is_ascii_alphabetic-clause-in_range
returns-then-is_ascii_alphabetic-clause-in_range c = rw c.name_len.ensures (prefix_len-le-length _ c.args.text.now)

pub returns-then-is_ascii_alphabetic-clause-next : goal.returns-then-is_ascii_alphabetic-clause-next
returns-then-is_ascii_alphabetic-clause-next c =
    λ some. name_at_front c.args.text.now c.name_len.result (some_text c.args.text.now (sym c.is_empty.ensures ∙ c.if-is_empty.false))
    (sym c.is_ascii_alphabetic.ensures.value ∙ c.if-is_ascii_alphabetic.true) c.name_len.ensures

pub returns-then-starts_with-clause-next : goal.returns-then-starts_with-clause-next
returns-then-starts_with-clause-next c = λ some. version_at_front c.args.text.now (sym c.if-starts_with.true ∙ c.starts_with.ensures.value)

pub returns-then-is_ascii_digit-clause-in_range : goal.returns-then-is_ascii_digit-clause-in_range
returns-then-is_ascii_digit-clause-in_range c = rw c.digits_len.ensures (prefix_len-le-length _ c.args.text.now)

pub returns-then-is_ascii_digit-clause-next : goal.returns-then-is_ascii_digit-clause-next
returns-then-is_ascii_digit-clause-next c =
    λ some. number_at_front c.args.text.now c.digits_len.result (some_text c.args.text.now (sym c.is_empty.ensures ∙ c.if-is_empty.false))
    (sym c.is_ascii_digit.ensures.value ∙ c.if-is_ascii_digit.true)
    (sym c.starts_with.ensures.value ∙ c.if-starts_with.false) c.digits_len.ensures

pub returns-then-starts_with-2-clause-next : goal.returns-then-starts_with-2-clause-next
returns-then-starts_with-2-clause-next c = λ some. library_at_front c.args.text.now (sym c.if-starts_with-2.true ∙ c.starts_with-2.ensures.value)

pub returns-clause-next : goal.returns-clause-next
returns-clause-next c =
    λ some. other_at_front c.args.text.now (some_text c.args.text.now (sym c.is_empty.ensures ∙ c.if-is_empty.false))
    c.requires (sym c.is_ascii_alphabetic.ensures.value ∙ c.if-is_ascii_alphabetic.false)
    (sym c.is_ascii_digit.ensures.value ∙ c.if-is_ascii_digit.false) (sym c.starts_with-2.ensures.value ∙ c.if-starts_with-2.false)

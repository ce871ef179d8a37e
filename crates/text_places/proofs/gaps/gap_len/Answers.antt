use Rattle.std.proofs.Common.{sym, ◌∙◌}
use Rattle.std.proofs.lemmas.Bool.{eqb-true}
use Rattle.std.proofs.lemmas.List.Sums.{prefix_len-le-length}
use Rattle.text_places.proofs.GapLemmas.{blank_at_front, comment_at_front, no_gap_in_nothing, no_gap_at_front}
use Rattle.text_places.proofs.RunLemmas.{some_text}
use Rattle.text_places.proofs.gaps.gap_len.Goals as goal

pub returns-then-is_empty-clause-none : goal.returns-then-is_empty-clause-none
returns-then-is_empty-clause-none c = λ zero. no_gap_in_nothing c.args.text.now (eqb-true _ _ (sym c.is_empty.ensures ∙ c.if-is_empty.true))

pub returns-then-is_blank-clause-found : goal.returns-then-is_blank-clause-found
returns-then-is_blank-clause-found c =
    λ some. blank_at_front c.args.text.now (some_text c.args.text.now (sym c.is_empty.ensures ∙ c.if-is_empty.false))
    (sym c.is_blank.ensures ∙ c.if-is_blank.true)

pub returns-then-starts_with-clause-found : goal.returns-then-starts_with-clause-found
returns-then-starts_with-clause-found c =
    λ some. comment_at_front c.args.text.now c.line_len.result (sym c.if-starts_with.true ∙ c.starts_with.ensures.value) c.line_len.ensures

pub returns-clause-none : goal.returns-clause-none
returns-clause-none c =
    λ zero. no_gap_at_front c.args.text.now (sym c.is_blank.ensures ∙ c.if-is_blank.false) (sym c.starts_with.ensures.value ∙ c.if-starts_with.false)

pub returns-then-starts_with-clause-in_range : goal.returns-then-starts_with-clause-in_range
returns-then-starts_with-clause-in_range c = rw c.line_len.ensures (prefix_len-le-length _ c.args.text.now)

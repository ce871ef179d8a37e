use Rattle.std.proofs.Common.{◌≡◌, [], eqb-true, inl, inr, sym, ◌∙◌}
use Rattle.real_format.proofs.CutLemmas.{words_stop, words_go, some_left}
use Rattle.real_format.proofs.words.Words.next.Goals as goal
use Rattle.real_format.proofs.words.Words.next.Goals.{then-is_empty-via-then-is_empty, then-is_empty-via-else-is_empty+then-is_comment}

pub returns-then-is_empty : goal.returns-then-is_empty
returns-then-is_empty c =
    let none : c.args.self.now ≡ [] = words_stop [] c.self.inside.rest.now c.split_at.result.1.now c.args.self.now c.blank_len.result (sym c.self.view_is)
    c.blank_len.ensures.len c.split_at.ensures.back
    (elim c.then-is_empty.branch [
      | then-is_empty-via-then-is_empty w ↦ inl (eqb-true _ _ (sym c.is_empty.ensures ∙ w.if-is_empty.true))
      | then-is_empty-via-else-is_empty+then-is_comment w ↦ inr (sym w.is_comment.ensures ∙ w.if-is_comment.true)
    ]) in
    (none, none)

pub returns : goal.returns
returns c = words_go c.self.inside.rest.now c.split_at.result.1.now c.split_at-2.result.0.now c.split_at-2.result.1.now c.args.self.now c.blank_len.result
    c.word_len.result (sym c.self.view_is) c.blank_len.ensures.len c.split_at.ensures.back (some_left _ _ c.is_empty.ensures c.if-is_empty.false)
    (sym c.is_comment.ensures ∙ c.if-is_comment.false) c.word_len.ensures.len c.split_at-2.ensures.front c.split_at-2.ensures.back

use Rattle.std.proofs.Common.{◌+◌, drop, ap, sym, ◌∙◌}
use Rattle.real_format.specs.inside.Lines.{LinesView}
use Rattle.real_format.proofs.CutLemmas.{line_taken, some_left}
use Rattle.real_format.proofs.words.Lines.next.Goals as goal

pub returns : goal.returns
returns c = record {
  number = ap (λ (v : LinesView). v.number + 1) c.self.view_is;
  left = sym (ap (λ (v : LinesView). v.left) c.self.view_is)
      ∙ line_taken c.self.inside.rest.now c.split_at.result.0.now c.split_at.result.1.now c.split_at-2.result.1.now c.line_len.result
      (some_left _ _ c.is_empty.ensures c.if-is_empty.false) c.line_len.ensures.len c.split_at.ensures.front c.split_at.ensures.back
      (c.split_at-2.ensures.back ∙ ap (λ k. drop k c.split_at.result.1.now) c.min.ensures);
}

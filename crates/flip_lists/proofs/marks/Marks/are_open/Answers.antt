use Rattle.std.proofs.Common.{◌∙◌, ap, ltb}
use Rattle.flip_lists.specs.declared.marks.TheConstants.{OPEN}
use Rattle.flip_lists.specs.Marks.{has}
use Rattle.flip_lists.proofs.MarkLemmas.{any_counted}
use Rattle.flip_lists.proofs.marks.Marks.are_open.Goals as goal

pub returns-clause-open : goal.returns-clause-open
returns-clause-open c = λ kept. ap (ltb 0) kept.counted ∙ any_counted (λ word. has word OPEN) c.args.self.now.words.items

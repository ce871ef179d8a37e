use Rattle.std.proofs.Common.{rules, refl, ◌∷◌, []}
use Rattle.flip_lists.proofs.MarkLemmas.{becomes_listed}
use Rattle.flip_lists.proofs.marks.Marks.list_line.Goals as goal

pub returns-in_ok-push : goal.returns-in_ok-push
returns-in_ok-push c = becomes_listed c.args.self.now _ (c.args.line ∷ []) (search rules) refl refl

use Rattle.std.proofs.Common.{◌≡◌, ◌∙◌, length, set, ◌++◌, ◌∷◌, [], subst}
use Rattle.flip_lists.specs.Flips.{controls_of}
use Rattle.flip_lists.specs.inside.Index.{ArePushed, contents, places_at}
use Rattle.flip_lists.proofs.IndexLemmas.{appended, lines_of_flip}
use Rattle.flip_lists.proofs.index.Index.append.Goals as goal

pub returns-clause-index : goal.returns-clause-index
returns-clause-index c =
    let lines = lines_of_flip c.args.lines c.args.flip c.requires.flip in
    let place : c.len-place.result ≡ length c.args.self.now.slots.items = c.len-place.ensures ∙ c.args.self.now.slots.ok.0 in
    appended c.args.lines c.args.self.now.slots.items c.push-2.new.self.items c.args.flip c.args.self.now.by_target.lists.items
    c.args.self.now.by_control.lists.items c.push.new.self.lists.items c.push_each.new.self.lists.items
    c.requires.index lines.target c.in_ok-push-2.ensures.items
    (subst (λ p. contents c.push.new.self.lists.items ≡ set (contents c.args.self.now.by_target.lists.items) c.args.flip.target
    (places_at c.args.self.now.by_target.lists.items c.args.flip.target ++ p ∷ [])) place c.in_ok-push.ensures)
    (subst (λ p. ArePushed (controls_of c.args.flip) p c.args.self.now.by_control.lists.items c.push_each.new.self.lists.items) place c.in_ok-push_each.ensures)

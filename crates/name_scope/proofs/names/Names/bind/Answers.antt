use Rattle.std.proofs.Common.{◌≡◌, ◌∷◌, ◌++◌, [], ◌∙◌, sym, ap, reverse, bytes_eq, arith}
use Rattle.std.proofs.lemmas.List.{length-reverse}
use Rattle.indexmap.specs.IndexMap.{get}
use Rattle.name_scope.specs.declared.names.Bound.{Bound}
use Rattle.name_scope.proofs.TableLemmas.{bound_more, reverse-push}
use Rattle.name_scope.proofs.names.Names.bind.Goals as goal

pub invariant_of-self-2 : goal.invariant_of-self-2
invariant_of-self-2 c =
    let b : Bound = record { name = c.in_ok-kept.kept; hidden = c.in_ok-hidden.hidden } in
    let room = c.push.ensures.succeeds (omega (arith, c.in_ok-reserve.ensures.ok, c.reserve.ensures.len)) in
    let items : c.push.new.self.items ≡ c.self.inside.bound.items ++ b ∷ [] = rw (sym c.reserve.ensures.items) (rw room at c.push.ensures.items) in
    let r = ap reverse items ∙ reverse-push c.self.inside.bound.items b in
    let hidden = c.in_ok-hidden.ensures.hidden ∙ c.self.invariant.1 c.args.name.now in
    let noted = rw (sym c.in_ok-kept.ensures) at c.in_ok-hidden.ensures.noted.entries in
    rw r (
      (rw c.in_ok-kept.ensures hidden, c.self.invariant.0),
      bound_more (get bytes_eq c.self.inside.nearest) (get bytes_eq c.note.new.nearest) (reverse c.self.inside.bound.items) b c.len-depth.result
          (omega (arith, c.len-depth.ensures, length-reverse c.self.inside.bound.items)) noted c.self.invariant.1,
    )

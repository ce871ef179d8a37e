use Rattle.std.proofs.Common.{◌≡◌, refl, sym, ◌∙◌}
use Rattle.exclusive_sums.specs.Cubes.{IsJoined, distance_of}
use Rattle.exclusive_sums.proofs.MergingLemmas.{HasRemoved, cancels, joins}
use Rattle.exclusive_sums.proofs.merging.merge_pair.Goals as goal
use Rattle.exclusive_sums.proofs.merging.merge_pair.Goals.{After-distance}

both_removed : (c : goal.After-distance) → HasRemoved c.args.cubes.now.items c.remove-right.new.self.items c.remove-left.new.self.items
    c.args.first c.args.second c.remove-left.result c.remove-right.result
both_removed c = record {
  pair = c.requires;
  right_is = c.remove-right.ensures.value;
  without_right = c.remove-right.ensures.items;
  left_is = c.remove-left.ensures.value;
  without_left = c.remove-left.ensures.items;
}

distance_is : (c : goal.After-distance) → c.distance.result ≡ distance_of c.remove-left.result c.remove-right.result
distance_is c = c.distance.ensures ∙ rw (c.literals.ensures.literals, c.literals-2.ensures.literals) refl

pub returns-then-distance-eq0 : goal.returns-then-distance-eq0
returns-then-distance-eq0 c =
    let before = (goal.at.returns-then-distance-eq0 c).After-distance in
    cancels _ _ _ _ _ _ _ (both_removed before) (sym (distance_is before) ∙ c.if-distance-eq0.true)

pub returns : goal.returns
returns c =
    let before = (goal.at.returns c).After-distance in
    let cube : IsJoined c.remove-left.result c.remove-right.result c.in_ok-joined.field-0 = c.in_ok-joined.ensures in
    rw c.in_ok-push.ensures.items (joins _ _ _ _ _ _ _ (both_removed before)
    (λ e. c.if-distance-eq0.false (distance_is before ∙ e)) c.in_ok-joined.field-0 cube)

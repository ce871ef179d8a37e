use Rattle.std.proofs.Common.{◌≡◌, ◌<◌, eqb, refl, subst, sym, true}
use Rattle.std.specs.List.{AllByRecursion}
use Rattle.std.proofs.lemmas.Bool.{eq-eqb, or_left, or_right}
use Rattle.mct_circuit.specs.Sizes.{has_line}
use Rattle.flip_lists.specs.Flips.{controls_of, lines_in}
use Rattle.flip_lists.proofs.IndexLemmas.{either_likes, likes_at_control, likes_at_target, lines_of_flip}
use Rattle.flip_lists.proofs.index.Index.likely_places.Goals as goal

pub returns-in-Zero : goal.returns-in-Zero
returns-in-Zero c =
    likes_at_target c.args.lines c.args.self.now.slots.items c.args.self.now.by_target.lists.items c.args.self.now.by_control.lists.items c.args.flip
    c.index.result.now c.as_slice-of_target.result.now c.requires.index c.requires.flip c.index.ensures c.as_slice-of_target.ensures.value

pub returns-in-One : goal.returns-in-One
returns-in-One c =
    let low = subst (λ l. AllByRecursion (λ x. x < c.args.lines) (lines_in l)) c.in-One.is (lines_of_flip c.args.lines c.args.flip c.requires.flip).low in
    let has : has_line c.in-One.one (controls_of c.args.flip) ≡ true =
    subst (λ l. has_line c.in-One.one (lines_in l) ≡ true) (sym c.in-One.is) (or_left (eqb c.in-One.one c.in-One.one) _
    (eq-eqb c.in-One.one c.in-One.one refl)) in
    either_likes c.args.self.now.slots.items c.args.flip c.as_slice-of_target.result.now c.as_slice-of_one.result.now c.shorter.result.now c.shorter.ensures
    (likes_at_target c.args.lines c.args.self.now.slots.items c.args.self.now.by_target.lists.items c.args.self.now.by_control.lists.items c.args.flip
    c.index.result.now c.as_slice-of_target.result.now c.requires.index c.requires.flip c.index.ensures c.as_slice-of_target.ensures.value)
    (likes_at_control c.args.lines c.args.self.now.slots.items c.args.self.now.by_target.lists.items c.args.self.now.by_control.lists.items c.args.flip
    c.in-One.one c.index-in-One.result.now c.as_slice-of_one.result.now c.requires.index low.0 has c.index-in-One.ensures c.as_slice-of_one.ensures.value)

pub returns-in-Two : goal.returns-in-Two
returns-in-Two c =
    let low = subst (λ l. AllByRecursion (λ x. x < c.args.lines) (lines_in l)) c.in-Two.is (lines_of_flip c.args.lines c.args.flip c.requires.flip).low in
    let has_first : has_line c.in-Two.first (controls_of c.args.flip) ≡ true =
    subst (λ l. has_line c.in-Two.first (lines_in l) ≡ true) (sym c.in-Two.is)
    (or_left (eqb c.in-Two.first c.in-Two.first) _ (eq-eqb c.in-Two.first c.in-Two.first refl)) in
    let has_second : has_line c.in-Two.second (controls_of c.args.flip) ≡ true =
    subst (λ l. has_line c.in-Two.second (lines_in l) ≡ true) (sym c.in-Two.is)
    (or_right (eqb c.in-Two.second c.in-Two.first) _ (or_left (eqb c.in-Two.second c.in-Two.second) _ (eq-eqb c.in-Two.second c.in-Two.second refl))) in
    either_likes c.args.self.now.slots.items c.args.flip c.as_slice-of_target.result.now c.shorter-in-Two.result.now c.shorter-in-Two-2.result.now
    c.shorter-in-Two-2.ensures
    (likes_at_target c.args.lines c.args.self.now.slots.items c.args.self.now.by_target.lists.items c.args.self.now.by_control.lists.items c.args.flip
    c.index.result.now c.as_slice-of_target.result.now c.requires.index c.requires.flip c.index.ensures c.as_slice-of_target.ensures.value)
    (either_likes c.args.self.now.slots.items c.args.flip c.as_slice-of_first.result.now c.as_slice-of_second.result.now c.shorter-in-Two.result.now
    c.shorter-in-Two.ensures
    (likes_at_control c.args.lines c.args.self.now.slots.items c.args.self.now.by_target.lists.items c.args.self.now.by_control.lists.items c.args.flip
    c.in-Two.first c.index-in-Two.result.now c.as_slice-of_first.result.now c.requires.index low.0 has_first c.index-in-Two.ensures
    c.as_slice-of_first.ensures.value)
    (likes_at_control c.args.lines c.args.self.now.slots.items c.args.self.now.by_target.lists.items c.args.self.now.by_control.lists.items c.args.flip
    c.in-Two.second c.index-in-Two-2.result.now c.as_slice-of_second.result.now c.requires.index low.1.0 has_second c.index-in-Two-2.ensures
    c.as_slice-of_second.ensures.value))

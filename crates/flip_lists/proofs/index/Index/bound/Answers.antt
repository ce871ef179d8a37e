use Rattle.std.proofs.Common.{◌≡◌, ◌<◌, ◌∙◌, List, Option, max, sym, ap, refl, arith, subst, not}
use Rattle.std.specs.List.{AllByRecursion}
use Rattle.flip_lists.specs.declared.flip.Controls.{Controls}
use Rattle.flip_lists.specs.declared.flip.Flip.{Flip}
use Rattle.flip_lists.specs.Flips.{are_free, lines_in}
use Rattle.flip_lists.specs.inside.Index.{AreIndexes, IsBehindLast, has_control}
use Rattle.flip_lists.proofs.IndexLemmas.{Looked, looked_at, indexes_controls, bound_zero, bound_one, bound_two, lines_of_flip}
use Rattle.flip_lists.proofs.index.Index.bound.Goals as goal
use Rattle.flip_lists.proofs.index.Index.bound.Goals.{After-behind_last-as_control}

control_looked : (c : After-behind_last-as_control) → Looked c.args.self.now.slots.items has_control c.args.self.now.by_control.lists.items
    c.behind_last-as_control.new.self.lists.items c.args.flip.target c.behind_last-as_control.result
control_looked c =
    let low = (lines_of_flip c.args.lines c.args.flip c.requires.flip).target in
    let long = c.requires.index.control_lines in
    looked_at c.args.self.now.slots.items c.deref.result.now has_control c.args.self.now.by_control.lists.items
    c.behind_last-as_control.new.self.lists.items c.args.flip.target c.behind_last-as_control.result c.deref.ensures.value
    c.requires.index.of_controls (omega arith) c.behind_last-as_control.ensures.found c.behind_last-as_control.ensures.others

still_index : (c : After-behind_last-as_control) → AreIndexes c.args.lines c.args.self.now.slots.items c.args.self.now.by_target.lists.items
    c.behind_last-as_control.new.self.lists.items
still_index c = indexes_controls c.args.lines c.args.self.now.slots.items c.args.self.now.by_target.lists.items c.args.self.now.by_control.lists.items
    c.behind_last-as_control.new.self.lists.items c.args.flip.target c.behind_last-as_control.result c.requires.index (control_looked c)

-- the slots are still what they were
behind_controls : (c : After-behind_last-as_control) (slots : List (Option Flip)) → slots ≡ c.args.self.now.slots.items
    → IsBehindLast slots (has_control c.args.flip.target) c.behind_last-as_control.result
behind_controls c slots same = rw same (control_looked c).is

-- the lines of the controls are below, as they were read
lines_low : (c : After-behind_last-as_control) (controls : Controls) → c.args.flip.controls ≡ controls
    → AllByRecursion (λ line. line < c.args.lines) (lines_in controls)
lines_low c controls is = rw is at (lines_of_flip c.args.lines c.args.flip c.requires.flip).low

pub behind_target-as_target-requires-clause-index : goal.behind_target-as_target-requires-clause-index
behind_target-as_target-requires-clause-index c = still_index (goal.at.behind_target-as_target-requires-clause-index c).After-behind_last-as_control

pub behind_target-as_first-requires-clause-index : goal.behind_target-as_first-requires-clause-index
behind_target-as_first-requires-clause-index c = still_index (goal.at.behind_target-as_first-requires-clause-index c).After-behind_last-as_control

pub behind_target-as_target-requires-clause-line : goal.behind_target-as_target-requires-clause-line
behind_target-as_target-requires-clause-line c =
    (lines_low (goal.at.behind_target-as_target-requires-clause-line c).After-behind_last-as_control _ c.in-One.is).0

pub behind_target-as_first-requires-clause-line : goal.behind_target-as_first-requires-clause-line
behind_target-as_first-requires-clause-line c = (lines_low (goal.at.behind_target-as_first-requires-clause-line c).After-behind_last-as_control _ c.in-Two.is).0

pub behind_target-as_second-requires-clause-line : goal.behind_target-as_second-requires-clause-line
behind_target-as_second-requires-clause-line c =
    (lines_low (goal.at.behind_target-as_second-requires-clause-line c).After-behind_last-as_control _ c.in-Two.is).1.0

pub returns-in-Zero : goal.returns-in-Zero
returns-in-Zero c =
    let control = (goal.at.returns-in-Zero c).After-behind_last-as_control in
    record {
      kept = record { index = still_index control; slots = refl };
      bound = bound_zero c.args.self.now.slots.items c.args.flip c.behind_last-as_control.result (sym (ap lines_in c.in-Zero.is)) (control_looked control).is;
    }

pub returns-in-One : goal.returns-in-One
returns-in-One c =
    let control = (goal.at.returns-in-One c).After-behind_last-as_control in
    let slots = c.behind_target-as_target.new.self.slots.items in
    let kept = c.behind_target-as_target.ensures.kept in
    record {
      kept = record { index = kept.index; slots = kept.slots };
      bound = subst (IsBehindLast slots (λ other. not (are_free c.args.flip other))) (sym c.max.ensures)
          (bound_one slots c.args.flip c.in-One.one c.behind_last-as_control.result c.behind_target-as_target.result
          (sym (ap lines_in c.in-One.is)) (behind_controls control slots kept.slots) c.behind_target-as_target.ensures.bound);
    }

pub returns-in-Two : goal.returns-in-Two
returns-in-Two c =
    let control = (goal.at.returns-in-Two c).After-behind_last-as_control in
    let slots = c.behind_target-as_second.new.self.slots.items in
    let kept = c.behind_target-as_second.ensures.kept in
    let same = kept.slots ∙ c.behind_target-as_first.ensures.kept.slots in
    record {
      kept = record { index = kept.index; slots = same };
      bound = subst (IsBehindLast slots (λ other. not (are_free c.args.flip other)))
          (sym (c.max-in-Two-2.ensures ∙ ap (max c.behind_last-as_control.result) c.max-in-Two.ensures))
          (bound_two slots c.args.flip c.in-Two.first c.in-Two.second c.behind_last-as_control.result c.behind_target-as_first.result
          c.behind_target-as_second.result (sym (ap lines_in c.in-Two.is)) (behind_controls control slots same)
          (rw kept.slots c.behind_target-as_first.ensures.bound) c.behind_target-as_second.ensures.bound);
    }

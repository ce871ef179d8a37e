use Rattle.std.proofs.Common.{refl, arith}
use Rattle.flip_lists.specs.inside.Index.{has_target}
use Rattle.flip_lists.proofs.IndexLemmas.{Looked, looked_at, indexes_targets}
use Rattle.flip_lists.proofs.index.Index.behind_target.Goals as goal
use Rattle.flip_lists.proofs.index.Index.behind_target.Goals.{After-behind_last}

target_looked : (c : After-behind_last) → Looked c.args.self.now.slots.items has_target c.args.self.now.by_target.lists.items
    c.behind_last.new.self.lists.items c.args.line c.behind_last.result
target_looked c =
    let long = c.requires.index.target_lines in
    looked_at c.args.self.now.slots.items c.deref.result.now has_target c.args.self.now.by_target.lists.items
    c.behind_last.new.self.lists.items c.args.line c.behind_last.result c.deref.ensures.value
    c.requires.index.of_targets (omega (arith, c.requires.line)) c.behind_last.ensures.found c.behind_last.ensures.others

pub returns-clause-kept : goal.returns-clause-kept
returns-clause-kept c = record {
  index = indexes_targets c.args.lines c.args.self.now.slots.items c.args.self.now.by_target.lists.items c.args.self.now.by_control.lists.items
      c.behind_last.new.self.lists.items c.args.line c.behind_last.result c.requires.index (target_looked (goal.at.returns-clause-kept c).After-behind_last);
  slots = refl;
}

pub returns-clause-bound : goal.returns-clause-bound
returns-clause-bound c = (target_looked (goal.at.returns-clause-bound c).After-behind_last).is

use Rattle.std.proofs.Common.{◌≡◌, take}
use Rattle.std.specs.Prelude.{slice_set}
use Rattle.std.specs.List.{fold}
use Rattle.flip_lists.proofs.marks.Marks.clear.Given as goal

abbrev pub invariant-loop-at : goal.invariant-loop-at
invariant-loop-at l = record {
  words : l.self.words.items ≡ fold (λ words line. slice_set words line 0) l.initial.self.words.items (take l.at l.initial.self.lines.items);
  lines : l.self.lines.items ≡ l.initial.self.lines.items;
  passed : l.self.passed ≡ l.initial.self.passed;
}

-- What a mark on some lines leaves.
use Rattle.std.specs.Prelude.{◌≡◌, ℕ, Bool, true, List}
use Rattle.std.specs.List.{AllByRecursion}
use Rattle.list_facts.specs.Lists.{IsAmong}
use Rattle.flip_lists.specs.declared.marks.Marks.{Marks}
use Rattle.flip_lists.specs.Marks.{AreKept, Notes, notes_of}

-- the notes change so; where all of the lines get the mark, they are lines of the change before
pub record GetMarks (lines : List ℕ) (all : Bool) (old new : Marks) (notes : Notes) : Type 0 where
  pub are : notes_of new ≡ notes
  pub passed : new.passed ≡ old.passed
  pub kept : AreKept old
      → (all ≡ true → AllByRecursion (λ line. IsAmong line old.lines.items) lines)
      → AreKept new

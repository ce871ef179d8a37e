-- What is noted of the lines of a change, and which flips can come to it.
--
-- A block was replaced at one place. Going on from there, flips are passed over. A flip that was
-- passed over stops a later one where the target of one is a control of the other.
use Rattle.std.specs.Prelude.{◌≡◌, ◌≢◌, ℕ, ◌-◌, Bool, true, false, not, ◌==◌, ◌&&◌, ◌||◌, if◌then◌else◌, List, [], ◌∷◌, ◌++◌}
use Rattle.std.specs.Prelude.{slice_index, slice_set, bit_and, bit_or, drop, nat_lt}
use Rattle.std.specs.List.{count_by, filter, fold, list_any}
use Rattle.list_facts.specs.Lists.{IsAmong}
use Rattle.flip_lists.specs.declared.flip.Flip.{Flip}
use Rattle.flip_lists.specs.declared.marks.TheConstants.{CONTROL, FREED_CONTROL, FREED_TARGET, NEW, OPEN, TARGET}
use Rattle.flip_lists.specs.declared.marks.Marks.{Marks}
use Rattle.flip_lists.specs.Flips.{controls_of, is_cx}

-- ---- what a word says

-- the word has the mark
abbrev pub has : ℕ → ℕ → Bool
has word mark = not (bit_and word mark == 0)

-- the line has the mark
abbrev pub is_marked : List ℕ → ℕ → ℕ → Bool
is_marked words mark line = has (slice_index words line) mark

abbrev pub is_any_marked : List ℕ → ℕ → List ℕ → Bool
is_any_marked words mark lines = list_any (is_marked words mark) lines

-- the flip has an open line
abbrev pub touches_open : List ℕ → Flip → Bool
touches_open words flip =
    is_marked words OPEN flip.target || is_any_marked words OPEN (controls_of flip)

-- a flip that was passed over stops it from moving back to the block
abbrev pub is_stopped : List ℕ → Flip → Bool
is_stopped words flip =
    is_marked words CONTROL flip.target || is_any_marked words TARGET (controls_of flip)

-- a flip that went out used to stop it
abbrev pub is_freed : List ℕ → Flip → Bool
is_freed words flip =
    is_marked words FREED_TARGET flip.target || is_any_marked words FREED_CONTROL (controls_of flip)

-- it is a CX between two lines of the new block
abbrev pub is_on_new : List ℕ → Flip → Bool
is_on_new words flip =
    is_cx flip && (is_any_marked words NEW (controls_of flip) && is_marked words NEW flip.target)

-- no flip that was passed over stops it from moving back to the block, and either a flip that went
-- out used to stop it, or it is a CX between two lines of the new block
abbrev pub may_come : List ℕ → Flip → Bool
may_come words flip =
    not (is_stopped words flip) && (is_freed words flip || is_on_new words flip)

-- ---- how a word changes

-- a flip may come whose target, or a control, is the line of this word: as target it was stopped by
-- a flip that went out, and none that was passed over stops it; or as a control; or the line is one
-- of the new block, and those that were passed over do not have it both as target and as a control
abbrev pub lets_come : ℕ → Bool
lets_come word =
    (has word FREED_TARGET && not (has word CONTROL))
    || (has word FREED_CONTROL && not (has word TARGET))
    || (has word NEW && not (has word TARGET && has word CONTROL))

-- the word is marked as open where it is so
abbrev pub with_openness : ℕ → ℕ
with_openness word = if lets_come word then bit_or word OPEN else bit_and word (255 - OPEN)

-- with one mark more, if it has some or all words get it
abbrev pub with_mark : ℕ → Bool → ℕ → ℕ
with_mark mark all word =
    if (word == 0 && not all) || has word mark then word else with_openness (bit_or word mark)

-- ---- how the notes change

-- the word of each line, and the lines of the change
pub record Notes : Type 0 where
  pub words : List ℕ
  pub lines : List ℕ

abbrev pub notes_of : Marks → Notes
notes_of marks = record { words = marks.words.items; lines = marks.lines.items }

-- a mark on a line
abbrev pub marked : ℕ → Bool → List ℕ → ℕ → List ℕ
marked mark all words line = slice_set words line (with_mark mark all (slice_index words line))

-- one mark on the target of the flip, and one on its controls
abbrev pub noted : ℕ → ℕ → Bool → Flip → Notes → Notes
noted of_target of_controls all flip notes =
    record {
      words = fold (marked of_controls all) (marked of_target all notes.words flip.target)
          (controls_of flip);
      lines = notes.lines;
    }

-- lines that have no mark are lines of the change from now on
abbrev pub listed : List ℕ → Notes → Notes
listed lines notes =
    record {
      words = notes.words;
      lines = notes.lines ++ filter (λ line. slice_index notes.words line == 0) lines;
    }

abbrev pub with_freed : Notes → Flip → Notes
with_freed notes flip =
    noted FREED_CONTROL FREED_TARGET true flip (listed (flip.target ∷ controls_of flip) notes)

abbrev pub with_new : Notes → Flip → Notes
with_new notes flip = noted NEW NEW true flip (listed (flip.target ∷ controls_of flip) notes)

-- the flip is passed over
abbrev pub with_passed : Notes → Flip → Notes
with_passed notes flip = noted TARGET CONTROL false flip notes

-- the lines of the change have no marks, and there is none
abbrev pub cleared : Notes → Notes
cleared notes =
    record {
      words = fold (λ words line. slice_set words line 0) notes.words notes.lines;
      lines = [];
    }

-- the block is freed, and the flips are new
abbrev pub changed : List Flip → List Flip → Notes → Notes
changed block new notes = fold with_new (fold with_freed (cleared notes) block) new

-- the flips from a place on are passed over
abbrev pub with_passed_from : ℕ → List Flip → Notes → Notes
with_passed_from from walked notes = fold with_passed notes (drop from walked)

-- how many stand before those that are passed over, where the flip at a place went
abbrev pub passed_without : ℕ → ℕ → ℕ
passed_without place passed = if nat_lt place passed then passed - 1 else passed

-- the open lines are counted, and each line that has a mark is a line of the change
pub record AreKept (marks : Marks) : Type 0 where
  pub counted : marks.open_lines ≡ count_by (λ word. has word OPEN) marks.words.items
  pub listed : (line : ℕ) → slice_index marks.words.items line ≢ 0
      → IsAmong line marks.lines.items

-- the flip is freed; then those that were walked over behind the place are passed over
pub record FreesBehind (flip : Flip) (place : ℕ) (walked : List Flip) (old new : Marks) : Type 0
  where
    pub passed : new.passed ≡ passed_without place old.passed
    pub are : notes_of new
        ≡ with_passed_from new.passed walked (with_freed (notes_of old) flip)
    pub kept : AreKept old → AreKept new

-- the notes change so, and the place behind which flips are passed over stays
pub record Becomes (old new : Marks) (notes : Notes) : Type 0 where
  pub are : notes_of new ≡ notes
  pub passed : new.passed ≡ old.passed
  pub kept : AreKept old → AreKept new

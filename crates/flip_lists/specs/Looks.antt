-- Where a look for a flip passes others at once: what is noted of the flips that were walked over,
-- and the places of the flips on each line.
use Rattle.std.specs.Prelude.{◌≡◌, ℕ, ◌+◌, ◌-◌, ◌*◌, ◌%◌, ◌<◌, ◌==◌, Bool, false, not, ◌&&◌, ◌||◌, if◌then◌else◌, min, max}
use Rattle.std.specs.Prelude.{Option, Some, None, List, [], ◌∷◌, ◌++◌, length, map, nat_le, nat_lt, replicate, slice_get, slice_index, slice_index_or}
use Rattle.std.specs.List.{count_by, find, list_any}
use Rattle.std.specs.List.Sorted.{IsNonDecreasing}
use Rattle.flip_lists.specs.declared.flip.Flip.{Flip}
use Rattle.flip_lists.specs.declared.looks.Latest.{Latest}
use Rattle.flip_lists.specs.declared.looks.OnLines.{OnLines}
use Rattle.flip_lists.specs.declared.looks.TheConstants.{KINDS_FOR_EACH_FLIP}
use Rattle.flip_lists.specs.declared.marks.TheConstants.{MOST_KINDS}
use Rattle.flip_lists.specs.Flips.{are_free, controls_of}
use Rattle.flip_lists.specs.Kinds.{kind_of}
use Rattle.mct_circuit.specs.Sizes.{has_line}

-- ---- the latest flips

-- the flip's kind, of so many
abbrev pub kind_among : ℕ → Flip → ℕ
kind_among kinds flip = kind_of flip % max kinds 1

-- nothing is noted, for so many flips on so many lines
pub record IsUnnoted (lines flips : ℕ) (latest : Latest) : Type 0 where
  pub kinds : latest.of_kind.items ≡ replicate (min (flips * KINDS_FOR_EACH_FLIP) MOST_KINDS) 0
  pub targets : latest.of_target.items ≡ replicate lines 0
  pub controls : latest.of_control.items ≡ replicate lines 0
  pub noted : latest.noted ≡ 0

-- how many were walked over up to the latest flip that passes the test, of those from a place on;
-- or what was noted before
abbrev pub latest_end : (Flip → Bool) → ℕ → List Flip → ℕ → ℕ
latest_end test place [] before = before
latest_end test place (flip ∷ flips) before =
    latest_end test (place + 1) flips (if test flip then place + 1 else before)

-- the ends are noted of flips from a place on, each by a test of its own
pub record AreNoted (test : ℕ → Flip → Bool) (place : ℕ) (flips : List Flip) (old new : List ℕ)
    : Type 0 where
  pub long : length new ≡ length old
  pub each : (at : ℕ) → at < length old
      → slice_index new at ≡ latest_end (test at) place flips (slice_index old at)

-- the flips from a place on are noted by their kinds, targets and controls
pub record NotesLatest (place : ℕ) (flips : List Flip) (old new : Latest) : Type 0 where
  pub kinds : AreNoted (λ kind flip. kind_among (length old.of_kind.items) flip == kind) place flips
      old.of_kind.items new.of_kind.items
  pub targets : AreNoted (λ line flip. flip.target == line) place flips
      old.of_target.items new.of_target.items
  pub controls : AreNoted (λ line flip. has_line line (controls_of flip)) place flips
      old.of_control.items new.of_control.items

-- the ends that are noted stay
pub record Stays (old new : Latest) : Type 0 where
  pub kinds : new.of_kind.items ≡ old.of_kind.items
  pub targets : new.of_target.items ≡ old.of_target.items
  pub controls : new.of_control.items ≡ old.of_control.items

-- ---- flips that are kept apart

-- there is a flip, which is not free of this one
abbrev pub is_in_the_way : Flip → Option Flip → Bool
is_in_the_way flip None = false
is_in_the_way flip (Some other) = not (are_free flip other)

-- the last of so many flips is behind the first few, and not free of this one
abbrev pub stands_between : ℕ → ℕ → Flip → List Flip → Bool
stands_between few end flip walked =
    nat_lt few end && is_in_the_way flip (slice_get walked (end - 1))

-- all flips like this one that are noted are among the first so many
abbrev pub end_of_like : Latest → Flip → ℕ
end_of_like latest flip =
    min (slice_index latest.of_kind.items (kind_among (length latest.of_kind.items) flip))
    (slice_index latest.of_target.items flip.target)

-- the latest flip that has a control of this one as target is behind so many, and not free of it
abbrev pub targets_stand_between : Latest → ℕ → Flip → List Flip → Bool
targets_stand_between latest few flip walked =
    list_any (λ line. stands_between few (slice_index latest.of_target.items line) flip walked)
    (controls_of flip)

-- none like this one is noted, or behind all that are stands one that is not free of it
abbrev pub are_apart : Latest → Flip → List Flip → Bool
are_apart latest flip walked =
    let like = end_of_like latest flip in
    (like == 0)
    || stands_between like (slice_index latest.of_control.items flip.target) flip walked
    || targets_stand_between latest like flip walked

-- ---- the places of the flips on each line

-- how often a flip has the line: once or never, where its lines are different
abbrev pub times : ℕ → List ℕ → ℕ
times line lines = count_by (λ other. line == other) lines

-- the places of the flips on a line, where the first has this one
abbrev pub places_on : ℕ → ℕ → List Flip → List ℕ
places_on line place [] = []
places_on line place (flip ∷ flips) =
    replicate (times line (flip.target ∷ controls_of flip)) place
    ++ places_on line (place + 1) flips

-- what is kept of a line
abbrev pub line_places : OnLines → ℕ → List ℕ
line_places on_lines line = slice_index_or (map (λ v. v.items) on_lines.places.items) line []

-- the places of the flips, line by line, which rise
pub record AreOnLines (lines : ℕ) (flips : List Flip) (on_lines : OnLines) : Type 0 where
  pub long : length on_lines.places.items ≡ lines
  pub each : (line : ℕ) → line < lines → line_places on_lines line ≡ places_on line 0 flips
  pub rise : (line : ℕ) → IsNonDecreasing (line_places on_lines line)

-- the first of the places from one on
abbrev pub first_from : ℕ → List ℕ → Option ℕ
first_from from places = find (λ place. nat_le from place) places

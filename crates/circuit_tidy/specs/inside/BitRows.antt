-- Rows as the bits of words: a word for each line, with a bit for each line.
use Rattle.std.specs.Prelude.{◌≡◌, ℕ, ◌<◌, ◌≤◌, ◌/◌, ◌%◌, ◌^◌, ◌==◌, Bool, true, List, ◌++◌, length, map, slice_index}
use Rattle.list_facts.specs.Lists.{IsRising}
use Rattle.mct_circuit.specs.Sizes.{has_line}
use Rattle.circuit_tidy.specs.declared.blocks.TheConstants.{MOST_BLOCK_LINES}
use Rattle.flip_lists.specs.declared.flip.Flip.{Flip}
use Rattle.circuit_tidy.specs.declared.rows.NotedRows.{NotedRows}
use Rattle.circuit_tidy.specs.Blocks.{cx, one_line}
use Rattle.flip_lists.specs.Flips.{is_cx}
use Rattle.circuit_tidy.specs.Elimination.{Addition, Rows, with_addition, with_additions}

-- the bit of a word at a place, the lowest place first
abbrev pub bit_at_place : ℕ → ℕ → Bool
bit_at_place place word = word / 2 ^ place % 2 == 1

pub record HoldRows (lines words : List ℕ) (rows : Rows) : Type 0 where
  pub long : length words ≡ length lines
  pub each : (p q : ℕ) → p < length lines → q < length lines
      → bit_at_place q (slice_index words p) ≡ rows (slice_index lines p) (slice_index lines q)

-- a word for each of the lines, which rise and are few enough for a bit each
pub record AreRowsOf (lines words : List ℕ) : Type 0 where
  pub few : length lines ≤ MOST_BLOCK_LINES
  pub rising : IsRising lines
  pub long : length words ≡ length lines

-- each word has its own bit alone
pub record AreOwnWords (count : ℕ) (words : List ℕ) : Type 0 where
  pub long : length words ≡ count
  pub each : (p q : ℕ) → p < count → q < count → bit_at_place q (slice_index words p) ≡ (p == q)

-- after an addition the words hold the changed rows
pub record AddsRow (lines old new : List ℕ) (addition : Addition) : Type 0 where
  pub long : length new ≡ length old
  pub holds : (rows : Rows) → HoldRows lines old rows
      → HoldRows lines new (with_addition rows addition)

pub record AddRows (lines old new : List ℕ) (additions : List Addition) : Type 0 where
  pub holds : (rows : Rows) → HoldRows lines old rows
      → HoldRows lines new (with_additions rows additions)

-- the additions are made and noted
pub record IsNoted (lines old new : List ℕ) (before behind : List Flip)
    (steps : Rows → List Addition) : Type 0 where
  pub long : length new ≡ length old
  pub holds : (rows : Rows) → HoldRows lines old rows
      → HoldRows lines new (with_additions rows (steps rows))
  pub notes : (rows : Rows) → HoldRows lines old rows
      → behind ≡ before ++ map cx (steps rows)

abbrev pub Notes : List ℕ → NotedRows → NotedRows → (Rows → List Addition) → Type 0
Notes lines old new steps =
    IsNoted lines old.words.items new.words.items old.notes.items new.notes.items steps

-- the addition from the line at a place onto that at another
abbrev pub between_places : List ℕ → ℕ → ℕ → Addition
between_places lines from onto =
    record { from = slice_index lines from; onto = slice_index lines onto }

-- a CX on two of the lines
pub record IsCxOn (lines : List ℕ) (flip : Flip) : Type 0 where
  pub is : is_cx flip ≡ true
  pub from : has_line (one_line flip.controls) lines ≡ true
  pub onto : has_line flip.target lines ≡ true

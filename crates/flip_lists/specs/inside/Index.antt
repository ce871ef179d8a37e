-- A list of flips with an index: each flip has a slot, which is emptied where it goes out; for each
-- line there are the places of the flips with that target, and of those with that control.
use Rattle.std.specs.Prelude.{◌≡◌, ℕ, zero, suc, ◌+◌, ◌<◌, ◌≤◌, ◌⊎◌, ◌==◌, Bool, true, false, if◌then◌else◌, Option, Some, None, List, [], ◌∷◌, ◌++◌, length}
use Rattle.std.specs.Prelude.{map, slice_index_or}
use Rattle.std.specs.List.{AllByRecursion}
use Rattle.std.specs.Global.{Vec}
use Rattle.list_facts.specs.Lists.{IsAmong, IsRising}
use Rattle.mct_circuit.specs.Sizes.{has_line}
use Rattle.flip_lists.specs.declared.flip.Flip.{Flip}
use Rattle.flip_lists.specs.declared.index.Index.{Index}
use Rattle.flip_lists.specs.Flips.{are_alike, controls_of}
use Rattle.flip_lists.specs.Settling.{with_flip}

-- ---- slots

-- what is in a slot
abbrev pub slot_at : List (Option Flip) → ℕ → Option Flip
slot_at slots place = slice_index_or slots place None

abbrev pub with_slot : Option Flip → List Flip → List Flip
with_slot None earlier = earlier
with_slot (Some flip) earlier = flip ∷ earlier

-- the flips in the first n slots, the latest first
abbrev pub flips_below : List (Option Flip) → ℕ → List Flip
flips_below slots zero = []
flips_below slots (suc n) = with_slot (slot_at slots n) (flips_below slots n)

abbrev pub flips_in : List (Option Flip) → List Flip
flips_in slots = flips_below slots (length slots)

-- whether the slot has a flip like this one
abbrev pub is_like_in : Flip → Option Flip → Bool
is_like_in flip None = false
is_like_in flip (Some other) = are_alike flip other

-- ---- places

-- the places of the flips that pass the test, in rising order, and perhaps of empty slots
pub record ArePlaces (slots : List (Option Flip)) (test : Flip → Bool) (places : List ℕ) : Type 0
  where
    pub rising : IsRising places
    pub below : AllByRecursion (λ place. place < length slots) places
    pub pass : (place : ℕ) (flip : Flip) → IsAmong place places → slot_at slots place ≡ Some flip
        → test flip ≡ true
    pub all : (place : ℕ) (flip : Flip) → slot_at slots place ≡ Some flip → test flip ≡ true
        → IsAmong place places

pub record IsThere (slots : List (Option Flip)) (test : Flip → Bool) (bound : ℕ) : Type 0 where
  pub place : ℕ
  pub flip : Flip
  pub at : bound ≡ place + 1
  pub is : slot_at slots place ≡ Some flip
  pub passes : test flip ≡ true

-- one more than the latest place whose flip passes the test, or 0
pub record IsBehindLast (slots : List (Option Flip)) (test : Flip → Bool) (bound : ℕ) : Type 0 where
  pub none : (place : ℕ) (flip : Flip) → bound ≤ place → slot_at slots place ≡ Some flip
      → test flip ≡ false
  pub last : (bound ≡ 0) ⊎ IsThere slots test bound

-- what a look for the last place answers, and leaves of the places
pub record FindsLast (slots : List (Option Flip)) (old new : List ℕ) (bound : ℕ) : Type 0 where
  pub kept : (test : Flip → Bool) → ArePlaces slots test old → ArePlaces slots test new
  pub is : (test : Flip → Bool) → ArePlaces slots test old → IsBehindLast slots test bound

-- ---- the index

abbrev pub contents : List (Vec ℕ) → List (List ℕ)
contents vectors = map (λ vector. vector.items) vectors

abbrev pub places_at : List (Vec ℕ) → ℕ → List ℕ
places_at places line = slice_index_or (contents places) line []

abbrev pub has_target : ℕ → Flip → Bool
has_target line flip = flip.target == line

abbrev pub has_control : ℕ → Flip → Bool
has_control line flip = has_line line (controls_of flip)

pub record AreIndexed (slots : List (Option Flip)) (test : ℕ → Flip → Bool) (places : List (Vec ℕ))
    : Type 0 where
  pub each : (line : ℕ) → line < length places
      → ArePlaces slots (test line) (places_at places line)

-- the place is the last one of each of the lines, and the other places stay
pub record ArePushed (lines : List ℕ) (place : ℕ) (old new : List (Vec ℕ)) : Type 0 where
  pub long : length new ≡ length old
  pub each : (line : ℕ) → line < length old → places_at new line
      ≡ (if has_line line lines then places_at old line ++ place ∷ [] else places_at old line)

-- the slots, and for each of n lines the places of its flips
pub record AreIndexes (n : ℕ) (slots : List (Option Flip)) (targets controls : List (Vec ℕ))
    : Type 0 where
  pub of_targets : AreIndexed slots has_target targets
  pub of_controls : AreIndexed slots has_control controls
  pub target_lines : length targets ≡ n
  pub control_lines : length controls ≡ n

abbrev pub IsIndex : ℕ → Index → Type 0
IsIndex n index =
    AreIndexes n index.slots.items index.by_target.lists.items index.by_control.lists.items

-- what stands of the index where only places of empty slots go
pub record KeepsSlots (n : ℕ) (old new : Index) : Type 0 where
  pub index : IsIndex n new
  pub slots : new.slots.items ≡ old.slots.items

-- rising places, among them those of all flips like this one
pub record HoldLikes (slots : List (Option Flip)) (flip : Flip) (places : List ℕ) : Type 0 where
  pub rising : IsRising places
  pub below : AllByRecursion (λ place. place < length slots) places
  pub all : (place : ℕ) (other : Flip) → slot_at slots place ≡ Some other
      → are_alike flip other ≡ true → IsAmong place places

pub record IsPartner (slots : List (Option Flip)) (flip : Flip) (bound place : ℕ) : Type 0 where
  pub other : Flip
  pub within : bound ≤ place
  pub is : slot_at slots place ≡ Some other
  pub alike : are_alike flip other ≡ true
  pub latest : (later : ℕ) (one : Flip) → place < later → slot_at slots later ≡ Some one
      → are_alike flip one ≡ false

pub record HasNoPartner (slots : List (Option Flip)) (flip : Flip) (bound : ℕ) : Type 0 where
  pub none : (place : ℕ) (other : Flip) → bound ≤ place → slot_at slots place ≡ Some other
      → are_alike flip other ≡ false

pub record IsPut (n : ℕ) (flip : Flip) (old new : Index) : Type 0 where
  pub index : IsIndex n new
  pub flips : flips_in new.slots.items ≡ with_flip flip (flips_in old.slots.items)

-- What the steps of a sweep leave of the flips.
use Rattle.std.specs.Prelude.{◌≡◌, ℕ, ◌+◌, ◌≤◌, true, List, [], ◌∷◌, ◌++◌, length, take, drop}
use Rattle.std.specs.List.{AllByRecursion}
use Rattle.flip_lists.specs.declared.flip.Flip.{Flip}
use Rattle.circuit_tidy.specs.declared.sweep.Sweep.{Sweep}
use Rattle.flip_lists.specs.Flips.{AreFlipsOn, are_alike, are_free}
use Rattle.circuit_tidy.specs.inside.Work.{Follows, GoesOn}

-- those that were walked over, and those still to come
abbrev pub contents : Sweep → List Flip
contents sweep = sweep.done.items ++ drop sweep.at sweep.flips.items

abbrev pub IsWithin : Sweep → Type 0
IsWithin sweep = sweep.at ≤ length sweep.flips.items

pub record IsBegun (flips : List Flip) (sweep : Sweep) : Type 0 where
  pub none : sweep.done.items ≡ []
  pub all : sweep.flips.items ≡ flips
  pub start : sweep.at ≡ 0

-- the flips keep their line map, and are no more
pub record Leads (old new : Sweep) : Type 0 where
  pub within : IsWithin new
  pub long : length new.flips.items ≡ length old.flips.items
  pub follows : (n : ℕ) → AreFlipsOn n (contents old) → Follows n (contents old) (contents new)

-- and are fewer
pub record LeadsOn (old new : Sweep) : Type 0 where
  pub within : IsWithin new
  pub long : length new.flips.items ≡ length old.flips.items
  pub goes_on : (n : ℕ) → AreFlipsOn n (contents old) → GoesOn n (contents old) (contents new)

-- the flips are the same
pub record Stays (old new : Sweep) : Type 0 where
  pub within : IsWithin new
  pub long : length new.flips.items ≡ length old.flips.items
  pub same : contents new ≡ contents old

-- so many more are walked over
pub record Takes (count : ℕ) (old new : Sweep) : Type 0 where
  pub done : new.done.items ≡ old.done.items ++ take count (drop old.at old.flips.items)
  pub flips : new.flips.items ≡ old.flips.items
  pub at : new.at ≡ old.at + count

-- so many are passed over, and others walked over in their place
pub record Replaces (count : ℕ) (shorter : List Flip) (old new : Sweep) : Type 0 where
  pub done : new.done.items ≡ old.done.items ++ shorter
  pub flips : new.flips.items ≡ old.flips.items
  pub at : new.at ≡ old.at + count

-- a flip like this one at a place, behind which all are free of this one
pub record IsLastLike (flips : List Flip) (flip : Flip) (place : ℕ) : Type 0 where
  pub before : List Flip
  pub other : Flip
  pub behind : List Flip
  pub cut : flips ≡ before ++ other ∷ behind
  pub at : place ≡ length before
  pub alike : are_alike flip other ≡ true
  pub free : AllByRecursion (λ one. are_free flip one ≡ true) behind

-- the flip that comes next and the one at a place cancel
pub record MeetsNext (sweep : Sweep) (place : ℕ) : Type 0 where
  pub flip : Flip
  pub rest : List Flip
  pub next : drop sweep.at sweep.flips.items ≡ flip ∷ rest
  pub like : IsLastLike sweep.done.items flip place

-- What a memo holds while a call flips.
use Rattle.std.specs.Prelude.{◌≡◌, ℕ, ◌≤◌, ◌⊎◌, Bool, ◌&&◌, if◌then◌else◌, nat_eq, List, [], length, Option, Some}
use Rattle.std.specs.Map.{lookup}
use Rattle.decision_diagram.specs.declared.memo.Operands.{Operands}
use Rattle.decision_diagram.specs.declared.memo.TheConstants.{MOST_RESULTS}
use Rattle.decision_diagram.specs.Diagrams.{DiagramView, first_variable}
use Rattle.decision_diagram.specs.Growth.{StandsFor}
use Rattle.decision_diagram.specs.inside.Flipping.{AreNumbers, first_asked, flipped_at}

-- how the code compares operands
abbrev pub same_operands : Operands → Operands → Bool
same_operands a b =
    nat_eq a.target b.target && (nat_eq a.left b.left && nat_eq a.right b.right)

-- the result that the memo gives for operands
abbrev pub recalled_from : List (Operands × ℕ) → Operands → Option ℕ
recalled_from memo o = lookup (same_operands o) memo

-- h is what the operands ask for, and asks no variable before those that they ask
pub record IsFlip (d : DiagramView) (o : Operands) (h : ℕ) : Type 0 where
  pub numbers : AreNumbers d.nodes o
  pub stands : StandsFor d.nodes h (flipped_at d.nodes o)
  pub first : first_asked d.vars d.nodes o ≤ first_variable d.vars d.nodes h

-- each result that the memo gives is what its operands ask for, and it has no more than it may
pub record HoldsFlips (d : DiagramView) (memo : List (Operands × ℕ)) : Type 0 where
  pub each : (o : Operands) (h : ℕ) → recalled_from memo o ≡ Some h → IsFlip d o h
  pub within : length memo ≤ MOST_RESULTS

-- the memo gives this result for the operands, and for all others what it gave before
abbrev pub Notes : Operands → ℕ → List (Operands × ℕ) → List (Operands × ℕ) → Type 0
Notes o flipped old new =
    (m : Operands) → recalled_from new m
    ≡ (if same_operands o m then Some flipped else recalled_from old m)

-- a full memo is emptied, and each other one stays
abbrev pub IsEmptiedWhereFull : List (Operands × ℕ) → List (Operands × ℕ) → Type 0
IsEmptiedWhereFull old new = (new ≡ old) ⊎ ((length old ≡ MOST_RESULTS) × (new ≡ []))

-- a memo that is emptied where it is full, and then the result is noted, or nothing
pub record KeepsOrNotes (o : Operands) (flipped : ℕ) (old new : List (Operands × ℕ)) : Type 0 where
  pub kept : List (Operands × ℕ)
  pub before : IsEmptiedWhereFull old kept
  pub noted : (new ≡ kept) ⊎ Notes o flipped kept new

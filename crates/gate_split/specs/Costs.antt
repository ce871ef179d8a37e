-- What a split costs, what it leaves as it is, and which flips it takes.
use Rattle.std.specs.Prelude.{◌≡◌, ℕ, ◌+◌, ◌-◌, ◌*◌, ◌<◌, ◌≤◌, ◌⊎◌, ◌==◌, nat_le, if◌then◌else◌, Some, List, [], ◌∷◌, ◌++◌, length, sum_by}
use Rattle.std.specs.List.{AllByRecursion}
use Rattle.mct_circuit.specs.declared.gate.Op.TheVariants.{Flip}
use Rattle.mct_circuit.specs.Gates.{GateView, IsGateOn, AreNarrow, flip_of, lines_of}
use Rattle.mct_circuit.specs.Sizes.{negative_controls, weight_of}
use Rattle.gate_split.specs.Split.{Avoids, IsSplitList, WantsIdle, idle_lines, split_positive}

-- ---- flips of positive controls

-- the gates in place of a flip of k positive controls, at least 3: 4(k - 2) where k - 2 lines are
-- idle, and otherwise 10 for k = 4 and 8(k - 3) for more; so never more than 8k
pub record HasCost (n : ℕ) (controls : List ℕ) (target : ℕ) (gates : List GateView) : Type 0 where
  pub with_enough :
      length controls - 2 ≤ length (idle_lines n (controls ++ target ∷ []))
      → length gates ≡ 4 * (length controls - 2)
  pub with_few :
      length (idle_lines n (controls ++ target ∷ [])) < length controls - 2
      → length gates ≡ (if length controls == 4 then 10 else 8 * (length controls - 3))
  pub at_most : length gates ≤ 8 * length controls

abbrev pub SplitCosts : Type 0
SplitCosts =
    (n : ℕ) (controls : List ℕ) (target : ℕ) (gates : List GateView)
    → IsGateOn n (flip_of controls target) → 3 ≤ length controls
    → split_positive n controls target ≡ Some gates → HasCost n controls target gates

-- ---- narrow gates

-- narrow gates stay, where they are within the limit
abbrev pub NarrowStay : Type 0
NarrowStay =
    (n limit : ℕ) (gates : List GateView) → AreNarrow gates → length gates ≤ limit
    → IsSplitList n limit gates gates

-- ---- flips that a split takes

-- at most so many gates stand in place of a flip: one for two controls or fewer, eight for each of
-- more, and two more for each negative control
abbrev pub most_gates : GateView → ℕ
most_gates gate =
    (if nat_le (length gate.controls) 2 then 1 else 8 * length gate.controls)
    + 2 * negative_controls gate.controls

-- a line below n that the gate does not use
pub record HasIdleLine (n : ℕ) (gate : GateView) : Type 0 where
  pub line : ℕ
  pub below : line < n
  pub idle : Avoids line (lines_of gate)

-- a flip on n lines that has at most two controls, or an idle line
pub record IsRoomyFlip (n : ℕ) (gate : GateView) : Type 0 where
  pub on : IsGateOn n gate
  pub target : ℕ
  pub is_flip : gate.op ≡ Flip target
  pub room : (length gate.controls ≤ 2) ⊎ HasIdleLine n gate

-- the gates have a split list on n lines within the limit, of at most so many gates
pub record IsSplitWithin (n limit : ℕ) (gates : List GateView) (most : ℕ) : Type 0 where
  pub narrow : List GateView
  pub is : IsSplitList n limit gates narrow
  pub few : length narrow ≤ most

-- Such flips never want an idle line, on these lines or more. They are split where their most gates
-- are within the limit together; and the most gates for a flip of k controls are at least its
-- weight, and at most 10k + 1.
pub record RoomyFlipsAreSplit : Type 0 where
  pub split : (n limit : ℕ) (gates : List GateView) → AllByRecursion (IsRoomyFlip n) gates
      → sum_by most_gates gates ≤ limit → IsSplitWithin n limit gates (sum_by most_gates gates)
  pub idle : (n limit place : ℕ) (gates : List GateView) → AllByRecursion (IsRoomyFlip n) gates
      → WantsIdle n limit gates place → ⊥
  pub wider : (n more : ℕ) (gates : List GateView) → n ≤ more
      → AllByRecursion (IsRoomyFlip n) gates → AllByRecursion (IsRoomyFlip more) gates
  pub weight : (n : ℕ) (gate : GateView) → IsRoomyFlip n gate → weight_of gate ≤ most_gates gate
  pub each : (gate : GateView) → most_gates gate ≤ 10 * length gate.controls + 1

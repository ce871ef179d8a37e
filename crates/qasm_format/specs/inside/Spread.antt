-- How many gates arguments stand for, as the reader finds it.
use Rattle.std.specs.Prelude.{◌≡◌, ◌==◌, ℕ, ◌<◌, Bool, true, not, ◌&&◌, if◌then◌else◌, List, [], ◌∷◌, ◌++◌, map, Option, Some, None}
use Rattle.std.specs.List.{list_any, range_with_len}
use Rattle.list_facts.specs.Lists.{AreDifferent}
use Rattle.mct_circuit.specs.declared.gate.Control.{Control}
use Rattle.mct_circuit.specs.Gates.{GateView, positive}
use Rattle.qasm_format.specs.declared.spots.Spot.{Spot}
use Rattle.qasm_format.specs.declared.spots.Spot.TheVariants.{Line, Whole}
use Rattle.qasm_format.specs.Registers.{line_at}
use Rattle.qasm_format.specs.Stages.{gate_at}

-- the size of one more register, which is that of the others
abbrev pub shared_size : Option ℕ → ℕ → Option (Option ℕ)
shared_size None size = Some (Some size)
shared_size (Some other) size = if size == other then Some (Some size) else None

-- the size that the registers share so far, with one more argument; nothing where they share none
abbrev pub shared : Option ℕ → Spot → Option (Option ℕ)
shared count (Line at) = Some count
shared count (Whole first size) = shared_size count size

abbrev pub shared_on : Option (Option ℕ) → (Option ℕ → Option (Option ℕ)) → Option (Option ℕ)
shared_on None f = None
shared_on (Some count) f = f count

abbrev pub shared_by : Option ℕ → List Spot → Option (Option ℕ)
shared_by count [] = Some count
shared_by count (spot ∷ spots) = shared_on (shared count spot) (λ more. shared_by more spots)

-- whether no line stands twice in the i-th gate
abbrev pub are_different : ℕ → List Spot → Bool
are_different i [] = true
are_different i (spot ∷ spots) =
    not (list_any (λ other. line_at i other == line_at i spot) spots) && are_different i spots

-- no line stands twice in any of so many gates
pub record AreAllDifferent (spots : List Spot) (count : ℕ) : Type 0 where
  pub says : (i : ℕ) → i < count → AreDifferent (map (line_at i) spots)

-- a line stands twice in one of so many gates
pub record MeetSomewhere (spots : List Spot) (count : ℕ) : Type 0 where
  pub i : ℕ
  pub below : i < count
  pub meet : ¬ AreDifferent (map (line_at i) spots)

-- so many gates of these arguments were put behind the others
pub record ArePushed (spots : List Spot) (count : ℕ) (old new : List GateView) : Type 0 where
  pub says : (controls : List Spot) (target : Spot) → spots ≡ controls ++ target ∷ []
      → new ≡ old ++ map (gate_at controls target) (range_with_len 0 count)

-- the controls of the i-th gate
abbrev pub controls_at : List Spot → ℕ → List Control
controls_at spots i = map positive (map (line_at i) spots)

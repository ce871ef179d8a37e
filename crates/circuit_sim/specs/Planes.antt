-- Many contents of the lines at once: a plane is a number with one bit of a line for each content.
use Rattle.std.specs.Prelude.{◌≡◌, ℕ, ◌<◌, ◌/◌, ◌%◌, ◌^◌, ◌==◌, Bool, List, length, map, slice_index}
use Rattle.std.specs.List.{AllByRecursion}
use Rattle.mct_circuit.specs.Gates.{GateView, line_map}

-- the bit of a plane at a place, the lowest place first
abbrev pub plane_bit : ℕ → ℕ → Bool
plane_bit place plane = plane / 2 ^ place % 2 == 1

-- one content of the lines: the bit of each plane at a place
abbrev pub column : ℕ → List ℕ → List Bool
column place planes = map (plane_bit place) planes

-- each of the 64 contents goes through the gates
pub record AreMapped (gates : List GateView) (before behind : List ℕ) : Type 0 where
  pub each : (place : ℕ) → place < 64 → column place behind ≡ line_map gates (column place before)

-- ---- vectors of planes

-- one plane of each vector: that of the lane with this number, counted from 0
abbrev pub lane : ℕ → List (List ℕ) → List ℕ
lane number vectors = map (λ vector. slice_index vector number) vectors

-- each vector has eight lanes
abbrev pub AreVectors : List (List ℕ) → Type 0
AreVectors vectors = AllByRecursion (λ vector. length vector ≡ 8) vectors

-- in each of the eight lanes each of the 64 contents goes through the gates
pub record AreMappedInLanes (gates : List GateView) (before behind : List (List ℕ)) : Type 0 where
  pub vectors : AreVectors behind
  pub each : (number : ℕ) → number < 8 → AreMapped gates (lane number before) (lane number behind)

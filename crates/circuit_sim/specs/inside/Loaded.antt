-- Rows of bits on planes: each row stands at a place of its own.
use Rattle.std.specs.Prelude.{◌≡◌, ◌≢◌, ℕ, ◌+◌, ◌*◌, ◌<◌, ◌≤◌, Bool, List, [], ◌++◌, length, map, take, drop, slice_index_or}
use Rattle.std.specs.Global.{Vec}
use Rattle.mct_circuit.specs.Gates.{CircuitView, line_map}
use Rattle.circuit_sim.specs.declared.rows.Room.{Room}
use Rattle.circuit_sim.specs.Planes.{AreVectors, plane_bit, column, lane}
use Rattle.circuit_sim.specs.Rows.{AreRows, contents}

-- a plane with one bit set
pub record IsWithBit (place : ℕ) (bit : Bool) (before behind : ℕ) : Type 0 where
  pub here : plane_bit place behind ≡ bit
  pub others : (other : ℕ) → other < 64 → other ≢ place
      → plane_bit other behind ≡ plane_bit other before

-- planes with one row set
pub record IsWithRow (place : ℕ) (row : List Bool) (before behind : List ℕ) : Type 0 where
  pub here : column place behind ≡ row
  pub others : (other : ℕ) → other < 64 → other ≢ place → column other behind ≡ column other before

-- the planes hold the rows, the first at place 0
pub record HoldRows (rows : List (List Bool)) (planes : List ℕ) : Type 0 where
  pub each : (place : ℕ) → place < length rows
      → column place planes ≡ slice_index_or rows place []

-- vectors with one lane set
pub record IsWithLane (number : ℕ) (planes : List ℕ) (before behind : List (List ℕ))
    : Type 0 where
  pub vectors : AreVectors behind
  pub here : lane number behind ≡ planes
  pub others : (other : ℕ) → other ≢ number → lane other behind ≡ lane other before

-- the vectors hold the rows, 64 in each lane
pub record HoldRowsInLanes (rows : List (List Bool)) (vectors : List (List ℕ)) : Type 0 where
  pub each : (number place : ℕ) → place < 64 → 64 * number + place < length rows
      → column place (lane number vectors) ≡ slice_index_or rows (64 * number + place) []

-- so many rows at the front have been changed by f, and those behind them have not
pub record IsFrontChanged (f : List Bool → List Bool) (count : ℕ)
    (before behind : List (List Bool)) : Type 0 where
  pub some : 0 < count
  pub few : count ≤ length before
  pub rows : behind ≡ map f (take count before) ++ drop count before

-- the rows have gone through the circuit
pub record AreRun (c : CircuitView) (before behind : List (Vec Bool)) : Type 0 where
  pub rows : contents behind ≡ map (line_map c.gates) (contents before)
  pub fit : AreRows c.lines behind

-- two vectors and a plane for each line
pub record IsRoom (lines : ℕ) (room : Room) : Type 0 where
  pub lengths : (length room.first.items ≡ lines) × (length room.second.items ≡ lines)
  pub planes : length room.planes.items ≡ lines
  pub vectors : AreVectors room.first.items × AreVectors room.second.items

-- The steps of a gate on planes, a place at a time.
use Rattle.std.specs.Prelude.{◌≡◌, ℕ, ◌<◌, Bool, not, ◌&&◌, if◌then◌else◌, List, length, slice_index}
use Rattle.std.specs.List.{list_all}
use Rattle.mct_circuit.specs.declared.gate.Control.{Control}
use Rattle.mct_circuit.specs.Gates.{is_met}
use Rattle.circuit_sim.specs.Planes.{plane_bit, column, lane}

-- the mask is 1 exactly at the places whose content meets all the controls
pub record IsMask (planes : List ℕ) (controls : List Control) (mask : ℕ) : Type 0 where
  pub each : (place : ℕ) → place < 64
      → plane_bit place mask ≡ list_all (is_met (column place planes)) controls

-- the places of a mask at which the plane of a line meets a control of that line too
pub record IsNarrowed (mask plane : ℕ) (positive : Bool) (narrowed : ℕ) : Type 0 where
  pub each : (place : ℕ) → plane_bit place narrowed ≡ (plane_bit place mask
      && (if positive then plane_bit place plane else not (plane_bit place plane)))

-- a plane that has the bits of one plane at the places of a mask, and those of another elsewhere
pub record IsChosen (mask there elsewhere chosen : ℕ) : Type 0 where
  pub each : (place : ℕ) → plane_bit place chosen
      ≡ (if plane_bit place mask then plane_bit place there else plane_bit place elsewhere)

-- ---- the same in each of eight lanes

pub record IsMaskInLanes (vectors : List (List ℕ)) (controls : List Control) (mask : List ℕ)
    : Type 0 where
  pub long : length mask ≡ 8
  pub each : (number : ℕ) → number < 8
      → IsMask (lane number vectors) controls (slice_index mask number)

pub record IsNarrowedInLanes (mask vector : List ℕ) (positive : Bool) (narrowed : List ℕ)
    : Type 0 where
  pub long : length narrowed ≡ 8
  pub each : (number : ℕ) → number < 8
      → IsNarrowed (slice_index mask number) (slice_index vector number) positive
      (slice_index narrowed number)

pub record IsChosenInLanes (mask there elsewhere chosen : List ℕ) : Type 0 where
  pub long : length chosen ≡ 8
  pub each : (number : ℕ) → number < 8
      → IsChosen (slice_index mask number) (slice_index there number)
      (slice_index elsewhere number) (slice_index chosen number)

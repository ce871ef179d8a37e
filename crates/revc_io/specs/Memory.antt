-- Sources and sinks in memory, as contracts see them.
use Rattle.std.specs.Prelude.{◌≡◌, ℕ, ◌+◌, ◌-◌, ◌^◌, ◌<◌, ◌≤◌, min, Bool, List, length, Contains, Some}
use Rattle.revc_io.specs.Faults.{raised}
use Rattle.revc_io.specs.Held.{Held}

-- ---- calls

-- the numbers of the calls that fail, how many calls there were (up to the greatest 64-bit number),
-- and the count of faults
pub record CallsView : Type 0 where
  pub failing : List ℕ
  pub made : ℕ
  pub faults : ℕ

-- the next call has a number, which is one of those that fail; calls have numbers from 1 to the
-- greatest 64-bit number
abbrev pub FailsNext : CallsView → Type 0
FailsNext calls = (calls.made < 2 ^ 64 - 1) × Contains calls.failing (calls.made + 1)

-- one more call
abbrev pub counted : CallsView → CallsView
counted calls = record calls { made = raised calls.made }

-- one more call, and one more fault
abbrev pub failed : CallsView → CallsView
failed calls = record (counted calls) { faults = raised calls.faults }

-- no call from here on is one of those that fail
pub record FailsNoMore (calls : CallsView) : Type 0 where
  pub each : (number : ℕ) → calls.made < number → number < 2 ^ 64
      → ¬ Contains calls.failing number

-- ---- a source

-- the bytes that are still to come, the most bytes that one call gives, and its calls
pub record SourceView : Type 0 where
  pub rest : List ℕ
  pub most : ℕ
  pub calls : CallsView

-- how many bytes a call gives into a buffer of this length: as many as `most`, the rest and the
-- buffer allow
abbrev pub given_of : SourceView → ℕ → ℕ
given_of source len = min (min source.most (length source.rest)) len

-- ---- a sink

-- its room in bytes, the most bytes that one call takes, the bytes that it took, whether it was
-- flushed since, and its calls
pub record SinkView : Type 0 where
  pub room : ℕ
  pub most : ℕ
  pub held : List ℕ
  pub flushed : Bool
  pub calls : CallsView

-- no byte more has room
abbrev pub IsFull : SinkView → Type 0
IsFull sink = length sink.held ≡ sink.room

-- so many bytes more have room, and no call fails
pub record SurelyTakes (sink : SinkView) (count : ℕ) : Type 0 where
  pub room : length sink.held + count ≤ sink.room
  pub calm : FailsNoMore sink.calls

-- what it says of itself
abbrev pub held_by : SinkView → Held
held_by sink = record {
  bytes = Some sink.held;
  promises = SurelyTakes sink;
  flushed = Some sink.flushed;
}

-- how many bytes of a piece of this length a call takes: as many as `most`, the piece and the room
-- allow
abbrev pub taken_of : SinkView → ℕ → ℕ
taken_of sink len = min sink.most (min len (sink.room - length sink.held))

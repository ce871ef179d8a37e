-- Numbers of a run, as the calls of the machine take them.
use Rattle.std.specs.Prelude.{◌≡◌, ℕ, zero, suc, Option, Some, None, List, Vec, Result, Ok, Err, ℤ, pos, negsuc, neg_ℤ, ◌≤ℤ◌, ⊤}
use Rattle.std.specs.Global.{Global}
use Rattle.revc_base.specs.declared.place.Place.{Place}
use Rattle.revs_terms.specs.declared.cause.Cause.TheVariants as causes
use Rattle.revs_terms.specs.declared.term.Step.{Step}
use Rattle.revs_terms.specs.Trees.{ItemTree}
use Rattle.revs_terms.specs.Running.{Value, number, Environment, stops, given, ◌>>=◌, places, turned, turns, worked, registered, number_of, turns_of, run_of}
use Rattle.revs_terms.specs.Runs.{no_bits}
use Rattle.array_shapes.specs.declared.shapes.ShapeFault.{ShapeFault}
use Rattle.array_shapes.specs.declared.shapes.ShapeFault.TheVariants as shapes
use Rattle.revs_run.specs.inside.Calls.{Blind}

-- the number that a value is
abbrev pub number_in : Value → Option ℤ
number_in (number k) = Some k
number_in _ = None

-- a unit's value, which adds to a number without passing 64 bits
abbrev pub IsShort : ℤ → Type 0
IsShort k = (neg_ℤ (pos 4294967296) ≤ℤ k) × (k ≤ℤ pos 4294967296)

-- the place that a number stands for
abbrev pub index_of : ℤ → Option ℕ
index_of (pos i) = Some i
index_of (negsuc i) = None

-- A list call takes these locations, or there are none, as its fault says; or memory was wanting.
abbrev pub Takes : ShapeFault → Option (List ℕ) → Result (Vec ℕ Global) ShapeFault → Type 0
Takes why some (Ok made) = some ≡ Some made.items
Takes why some (Err (shapes.Memory _)) = ⊤
Takes why some (Err shapes.Slice) = (why ≡ shapes.Slice) × (some ≡ None)
Takes why some (Err shapes.Rotate) = (why ≡ shapes.Rotate) × (some ≡ None)
Takes why some (Err shapes.Length) = (why ≡ shapes.Length) × (some ≡ None)

-- a register of the locations in the places from one to another, and one that is turned
abbrev pub slice_step : List ℕ → ℤ → ℤ → Place → Place → Blind Value
slice_step r first last at whole = do
  some ← given (places r first last) causes.Slice at
  registered no_bits some whole

abbrev pub turn_step : List ℕ → ℤ → Place → Blind Value
turn_step r k at = do
  all ← given (turned r k) causes.Rotate at
  registered no_bits all at

-- a `for` with so many levels of depth left; the name that it binds says nothing of its run
abbrev pub loop_run : ℕ → Environment → List Step → List Step → List ItemTree → Place → Blind Value
loop_run zero env a b items at = stops causes.Depth at
loop_run (suc left) env a b items at = do
  _ ← worked no_bits 1 at
  first ← number_of no_bits env a
  last ← number_of no_bits env b
  turns_of no_bits (run_of no_bits left) env items at first (turns first last)

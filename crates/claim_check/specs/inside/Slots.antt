-- Tables with a slot for each input and each write of a tape.
use Rattle.std.specs.Prelude.{ℕ, ◌+◌}
use Rattle.revs_tape.specs.declared.tape.Ref.{Ref}
use Rattle.revs_tape.specs.declared.tape.Ref.TheVariants as refs
use Rattle.revs_tape.specs.Measures.{inputs_of, writes_of}
use Rattle.revs_tape.specs.Tapes.{TapeView, IsKnown}

-- the slot of an input or a write, where the inputs are so many: the writes stand behind them
abbrev pub slot_of : ℕ → Ref → ℕ
slot_of inputs (refs.Input i) = i
slot_of inputs (refs.Write j) = inputs + j

-- an input or a write of the tape
abbrev pub IsRefOf : TapeView → Ref → Type 0
IsRefOf t ref = IsKnown (inputs_of t) (writes_of t) ref

-- how many slots a tape has
abbrev pub slots_of : TapeView → ℕ
slots_of t = inputs_of t + writes_of t

-- Measures of a tape.
use Rattle.std.specs.Prelude.{ℕ, List, [], ◌∷◌, length, map, sum}
use Rattle.std.specs.List.{flat_map, sum_by}
use Rattle.revs_tape.specs.declared.tape.Ref.{Ref}
use Rattle.revs_tape.specs.declared.tape.Ref.TheVariants as refs
use Rattle.revs_tape.specs.declared.tape.Entry.{Entry}
use Rattle.revs_tape.specs.declared.tape.Entry.TheVariants as entries
use Rattle.revs_tape.specs.Cuts.{IsWidth}
use Rattle.revs_tape.specs.Tapes.{TapeView, operands}

-- ---- counts

-- the number of inputs, one for each place of each parameter
abbrev pub inputs_of : TapeView → ℕ
inputs_of t = sum t.params

-- the number of outputs
abbrev pub outputs_of : TapeView → ℕ
outputs_of t = length t.outputs

-- the number of writes
abbrev pub writes_of : TapeView → ℕ
writes_of t = length t.entries

abbrev pub and_count : Entry → ℕ
and_count (entries.Const bit) = 0
and_count (entries.Xor a b) = 0
and_count (entries.And a b) = 1

-- the number of writes that are ANDs
abbrev pub ands_of : TapeView → ℕ
ands_of t = sum_by and_count t.entries

-- ---- width

-- the write of a reference, where it is one
abbrev pub write_of : Ref → List ℕ
write_of (refs.Input i) = []
write_of (refs.Write j) = j ∷ []

-- the writes among these
abbrev pub writes_among : List Ref → List ℕ
writes_among made = flat_map write_of made

-- the writes of a tape as steps: each with the writes that it is made of
abbrev pub steps_of : TapeView → List (List ℕ)
steps_of t = map (λ (entry : Entry). writes_among (operands entry)) t.entries

-- The width of a tape: the most writes that are needed at one place.
abbrev pub HasWidth : TapeView → ℕ → Type 0
HasWidth t width = IsWidth (steps_of t) (writes_among t.outputs) width

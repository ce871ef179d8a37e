-- Marks on writes, as the measures of a tape set them: place i of the list is that of write i.
use Rattle.std.specs.Prelude.{ℕ, Bool, true, List, [], ◌∷◌, count_by, slice_set}
use Rattle.revs_tape.specs.declared.tape.Ref.{Ref}
use Rattle.revs_tape.specs.declared.tape.Ref.TheVariants as refs
use Rattle.revs_tape.specs.declared.tape.Entry.{Entry}
use Rattle.revs_tape.specs.declared.tape.Entry.TheVariants as entries

-- how many are marked
abbrev pub marked : List Bool → ℕ
marked marks = count_by (λ (mark : Bool). mark) marks

-- with a mark on this write, where the list has its place
abbrev pub with_mark : List Bool → Ref → List Bool
with_mark marks (refs.Input i) = marks
with_mark marks (refs.Write i) = slice_set marks i true

abbrev pub with_marks : List Bool → List Ref → List Bool
with_marks marks [] = marks
with_marks marks (ref ∷ rest) = with_marks (with_mark marks ref) rest

-- with a mark on each operand
abbrev pub with_operands : List Bool → Entry → List Bool
with_operands marks (entries.Const bit) = marks
with_operands marks (entries.Xor a b) = with_mark (with_mark marks a) b
with_operands marks (entries.And a b) = with_mark (with_mark marks a) b

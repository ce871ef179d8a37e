-- The bits of references stay as the log grows.
use Rattle.std.proofs.Common.{◌≡◌, ℕ, ◌+◌, Bool, false, List, [], ◌∷◌, ◌++◌, length, refl, ap, ◌∙◌, arith}
use Rattle.std.proofs.lemmas.List.{get_or_append_left, get_or_at, length-append}
use Rattle.revs_tape.specs.declared.tape.Ref.{Ref}
use Rattle.revs_tape.specs.declared.tape.Ref.TheVariants as refs
use Rattle.revs_tape.specs.declared.tape.Entry.{Entry}
use Rattle.revs_tape.specs.Tapes.{bit_of, bit_at, entry_bit, written_by, IsKnown}

pub length-written_by : (input written : List Bool) (es : List Entry) → length (written_by input written es) ≡ length written + length es
length-written_by input written [] = omega arith
length-written_by input written (e ∷ es) =
    let rest = length-written_by input (written ++ entry_bit input written e ∷ []) es in
    let one : length (written ++ entry_bit input written e ∷ []) ≡ length written + 1 = length-append written (entry_bit input written e ∷ []) in
    omega arith

written_by-push : (input written : List Bool) (es : List Entry) (e : Entry)
    → written_by input written (es ++ e ∷ []) ≡ written_by input written es ++ entry_bit input (written_by input written es) e ∷ []
written_by-push input written [] e = refl
written_by-push input written (x ∷ es) e = written_by-push input (written ++ entry_bit input written x ∷ []) es e

-- a reference that is known has the bit that it had
pub bit_at-push : (n : ℕ) (input : List Bool) (es : List Entry) (e : Entry) (ref : Ref) → IsKnown n (length es) ref
    → bit_at input (written_by input [] (es ++ e ∷ [])) ref ≡ bit_at input (written_by input [] es) ref
bit_at-push n input es e (refs.Input i) h = refl
bit_at-push n input es e (refs.Write j) h =
    let long : length (written_by input [] es) ≡ length {A = Bool} [] + length es = length-written_by input [] es in
    ap (λ w. bit_of w j) (written_by-push input [] es e)
    ∙ get_or_append_left (written_by input [] es) (entry_bit input (written_by input [] es) e ∷ []) false j (omega arith)

-- the newest write has the bit of its entry
pub bit_at-newest : (input : List Bool) (es : List Entry) (e : Entry)
    → bit_at input (written_by input [] (es ++ e ∷ [])) (refs.Write (length es)) ≡ entry_bit input (written_by input [] es) e
bit_at-newest input es e =
    let long : length (written_by input [] es) ≡ length {A = Bool} [] + length es = length-written_by input [] es in
    ap (λ w. bit_of w (length es)) (written_by-push input [] es e)
    ∙ get_or_at (written_by input [] es) (entry_bit input (written_by input [] es) e) [] false (length es) (omega arith)

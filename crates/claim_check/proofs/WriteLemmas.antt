-- The functions of inputs and writes over the variables, each from those of its operands.
use Rattle.std.proofs.Common.{◌≡◌, ℕ, zero, suc, ◌+◌, ◌<◌, Bool, false, ◌&&◌, List, [], ◌∷◌, ◌++◌, length, slice_get, Some, refl, sym, ap, ap₂, ◌∙◌}
use Rattle.std.proofs.Common.{subst, arith}
use Rattle.std.specs.Bool.{xor}
use Rattle.std.proofs.lemmas.List.{get_or_append_left, get_or_at, length-append}
use Rattle.std.proofs.lemmas.Option.{same_Some}
use Rattle.list_facts.specs.Bits.{bit_of}
use Rattle.revs_tape.specs.declared.tape.Ref.{Ref}
use Rattle.revs_tape.specs.declared.tape.Ref.TheVariants as refs
use Rattle.revs_tape.specs.declared.tape.Entry.{Entry}
use Rattle.revs_tape.specs.declared.tape.Entry.TheVariants as entries
use Rattle.revs_tape.specs.Measures.{inputs_of}
use Rattle.revs_tape.specs.Tapes.{TapeView, IsTape, IsKnown, IsKnownEntry, AreKnown, bit_at, bit_on, entry_bit, written_by}
use Rattle.decision_diagram.specs.Functions.{Function, AreSame, variable_at, exclusive_or, conjunction}
use Rattle.claim_check.specs.inside.Tables.{input_at, function_at}
use Rattle.claim_check.proofs.VariableLemmas.{bit-bits_at, ordered, variable_of}

-- ---- bits stay as more is written

bit-written_by : (input written : List Bool) (es : List Entry) (i : ℕ) → i < length written → bit_of (written_by input written es) i ≡ bit_of written i
bit-written_by input written [] i low = refl
bit-written_by input written (e ∷ es) i low =
    let bit : Bool = entry_bit input written e in
    bit-written_by input (written ++ bit ∷ []) es i (omega (arith, low, length-append written (bit ∷ [])))
    ∙ get_or_append_left written (bit ∷ []) false i low

bit_at-written_by : (n : ℕ) (input written : List Bool) (es : List Entry) (ref : Ref) → IsKnown n (length written) ref
    → bit_at input (written_by input written es) ref ≡ bit_at input written ref
bit_at-written_by n input written es (refs.Input i) known = refl
bit_at-written_by n input written es (refs.Write j) known = bit-written_by input written es j known

entry_bit-written_by : (n : ℕ) (input written : List Bool) (es : List Entry) (e : Entry) → IsKnownEntry n (length written) e
    → entry_bit input (written_by input written es) e ≡ entry_bit input written e
entry_bit-written_by n input written es (entries.Const bit) known = refl
entry_bit-written_by n input written es (entries.Xor a b) known =
    ap₂ xor (bit_at-written_by n input written es a known.0) (bit_at-written_by n input written es b known.1)
entry_bit-written_by n input written es (entries.And a b) known =
    ap₂ ◌&&◌ (bit_at-written_by n input written es a known.0) (bit_at-written_by n input written es b known.1)

bit_at_entry : (n : ℕ) (input written : List Bool) (es : List Entry) (k j : ℕ) (e : Entry) → length written ≡ k → AreKnown n k es
    → slice_get es j ≡ Some e → bit_of (written_by input written es) (k + j) ≡ entry_bit input (written_by input written es) e
bit_at_entry n input written [] k j e size known is = cc
bit_at_entry n input written (x ∷ es) k zero e size known is =
    let bit : Bool = entry_bit input written x in
    let all : List Bool = written_by input written (x ∷ es) in
    let here : IsKnownEntry n (length written) x = subst (λ (z : ℕ). IsKnownEntry n z x) (sym size) known.0 in
    bit-written_by input (written ++ bit ∷ []) es (k + 0) (omega (arith, size, length-append written (bit ∷ [])))
    ∙ get_or_at written bit [] false (k + 0) (omega (arith, size))
    ∙ sym (entry_bit-written_by n input written (x ∷ es) x here)
    ∙ ap (entry_bit input all) (same_Some x e is)
bit_at_entry n input written (x ∷ es) k (suc j) e size known is =
    let bit : Bool = entry_bit input written x in
    let next : k + suc j ≡ (k + 1) + j = omega arith in
    ap (bit_of (written_by input written (x ∷ es))) next
    ∙ bit_at_entry n input (written ++ bit ∷ []) es (k + 1) j e (length-append written (bit ∷ []) ∙ omega (arith, size)) known.1 is

-- the bit of a write is that of its entry
pub bit_of_write : (t : TapeView) → IsTape t → (input : List Bool) (j : ℕ) (e : Entry) → slice_get t.entries j ≡ Some e
    → bit_on t input (refs.Write j) ≡ entry_bit input (written_by input [] t.entries) e
bit_of_write t is input j e at =
    let here : j ≡ 0 + j = omega arith in
    ap (bit_of (written_by input [] t.entries)) here ∙ bit_at_entry (inputs_of t) input [] t.entries 0 j e refl is.known at

-- ---- functions over the variables

-- the function of an input is its variable
pub function-Input : (t : TapeView) (i k : ℕ) → k < inputs_of t → variable_of (ordered t) k ≡ i → AreSame (variable_at k) (function_at t (refs.Input i))
function-Input t i k low is = λ a. sym (bit-bits_at (ordered t) a k low) ∙ ap (bit_of (input_at t a)) is

pub function-Const : (t : TapeView) → IsTape t → (j : ℕ) (bit : Bool) → slice_get t.entries j ≡ Some (entries.Const bit)
    → AreSame (λ _. bit) (function_at t (refs.Write j))
function-Const t is j bit at = λ a. sym (bit_of_write t is (input_at t a) j (entries.Const bit) at)

pub function-Xor : (t : TapeView) → IsTape t → (j : ℕ) (a b : Ref) (f g : Function) → slice_get t.entries j ≡ Some (entries.Xor a b)
    → AreSame f (function_at t a) → AreSame g (function_at t b) → AreSame (exclusive_or f g) (function_at t (refs.Write j))
function-Xor t is j a b f g at left right = λ v. ap₂ xor (left v) (right v) ∙ sym (bit_of_write t is (input_at t v) j (entries.Xor a b) at)

pub function-And : (t : TapeView) → IsTape t → (j : ℕ) (a b : Ref) (f g : Function) → slice_get t.entries j ≡ Some (entries.And a b)
    → AreSame f (function_at t a) → AreSame g (function_at t b) → AreSame (conjunction f g) (function_at t (refs.Write j))
function-And t is j a b f g at left right = λ v. ap₂ ◌&&◌ (left v) (right v) ∙ sym (bit_of_write t is (input_at t v) j (entries.And a b) at)

-- The first word of a statement, as the reader finds it.
use Rattle.std.proofs.Common.{◌≡◌, ℕ, ◌<◌, Bool, true, false, not, ◌&&◌, cond, ◌⊎◌, inl, inr, List, [], length, codes, Option, Some, None, Result, Ok, Err, refl, sym, ap}
use Rattle.std.proofs.Common.{◌∙◌, subst, arith}
use Rattle.std.specs.Result.{OnOk, IfErr}
use Rattle.std.specs.Str.{bytes_eq}
use Rattle.std.proofs.lemmas.Slice.Eq.{bytes_eq-Decides}
use Rattle.std.proofs.lemmas.Bool.{false≢true, and_parts, not-true}
use Rattle.std.proofs.lemmas.Option.{none-some, same_Some}
use Rattle.qasm_format.specs.declared.words.RegisterKind.{RegisterKind}
use Rattle.qasm_format.specs.declared.words.RegisterKind.TheVariants.{Qubits, Bits}
use Rattle.qasm_format.specs.declared.words.Use.{Use}
use Rattle.qasm_format.specs.declared.words.Use.TheVariants.{Barrier, Flip}
use Rattle.revc_base.specs.declared.place.Place.{Place}
use Rattle.qasm_format.specs.declared.file.QasmFault.{QasmFault}
use Rattle.qasm_format.specs.declared.file.QasmFault.TheVariants.{Token}
use Rattle.qasm_lexer.specs.Tokens.{Left}
use Rattle.qasm_format.specs.Registers.{lines_of_all}
use Rattle.qasm_format.specs.Qasm.{Reads}
use Rattle.qasm_format.specs.Faults.{IsStop}
use Rattle.qasm_format.specs.Stages.{Said, Stage, starts, wants_library, wants_name, wants_argument, kind_word, IsUseWord, Leads}
use Rattle.qasm_format.specs.inside.Tests.{is_include, kind_of, use_of, flip_of}
use Rattle.qasm_lexer.specs.Tokens.{Takes}
use Rattle.qasm_format.specs.inside.Says.{BeginsNone, ReadsBehind, StopsBehind, ReadsStatement}
use Rattle.qasm_format.proofs.ReadingLemmas.{same_word, reads_next, reads_then, breaks_rule, stops_later}
use Rattle.qasm_lexer.proofs.MoveLemmas.{moves_within, takes_fewer}

-- a test that passes, or the rest
chosen : {A : Type 0} (word wanted : List ℕ) (x y : Option A) (a : A) → cond (bytes_eq word wanted) x y ≡ Some a
    → ((word ≡ wanted) × (x ≡ Some a)) ⊎ (y ≡ Some a)
chosen word wanted x y a e = by (bytes_eq word wanted) refl
  where
    by : (t : Bool) → bytes_eq word wanted ≡ t → ((word ≡ wanted) × (x ≡ Some a)) ⊎ (y ≡ Some a)
    by true same = inl (same_word word wanted same, sym (ap (λ (t : Bool). cond t x y) same) ∙ e)
    by false other = inr (sym (ap (λ (t : Bool). cond t x y) other) ∙ e)

-- the word is the wanted one, so the test passes
taken : {A : Type 0} (word wanted : List ℕ) (x y : Option A) → word ≡ wanted → cond (bytes_eq word wanted) x y ≡ x
taken word wanted x y same = ap (λ (t : Bool). cond t x y) ((bytes_eq-Decides word wanted).1 same)

pub kind_found : (word : List ℕ) (kind : RegisterKind) → kind_of word ≡ Some kind → word ≡ kind_word kind
kind_found word kind e = by (chosen word (codes "qreg") (Some Qubits) (cond (bytes_eq word (codes "creg")) (Some Bits) None) kind e)
  where
    second : ((word ≡ codes "creg") × (Some Bits ≡ Some kind)) ⊎ (None ≡ Some kind) → word ≡ kind_word kind
    second (inl bits) = bits.0 ∙ ap kind_word (same_Some Bits kind bits.1)
    second (inr none) = absurd (none-some kind none)

    by : ((word ≡ codes "qreg") × (Some Qubits ≡ Some kind)) ⊎ (cond (bytes_eq word (codes "creg")) (Some Bits) None ≡ Some kind) → word ≡ kind_word kind
    by (inl qubits) = qubits.0 ∙ ap kind_word (same_Some Qubits kind qubits.1)
    by (inr more) = second (chosen word (codes "creg") (Some Bits) None kind more)

pub kind_there : (kind : RegisterKind) → kind_of (kind_word kind) ≡ Some kind
kind_there Qubits = refl
kind_there Bits = refl

pub use_there : (word : List ℕ) (included : Bool) (usage : Use) → IsUseWord word included usage → use_of word included ≡ Some usage
use_there word included Barrier h = ap (λ (w : List ℕ). use_of w included) h
use_there word included (Flip controls) (inl h) =
    ap (λ (w : List ℕ). use_of w included) h.0 ∙ ap (use_of (codes "x")) h.1 ∙ ap (λ (n : ℕ). Some (Flip n)) (sym h.2)
use_there word included (Flip controls) (inr (inl h)) =
    ap (λ (w : List ℕ). use_of w included) h.0 ∙ ap (use_of (codes "cx")) h.1 ∙ ap (λ (n : ℕ). Some (Flip n)) (sym h.2)
use_there word included (Flip controls) (inr (inr (inl h))) =
    ap (λ (w : List ℕ). use_of w included) h.0 ∙ ap (λ (n : ℕ). Some (Flip n)) (sym h.1)
use_there word included (Flip controls) (inr (inr (inr h))) =
    ap (λ (w : List ℕ). use_of w included) h.0 ∙ ap (use_of (codes "ccx")) h.1 ∙ ap (λ (n : ℕ). Some (Flip n)) (sym h.2)

include_there : (word : List ℕ) (included : Bool) → included ≡ false → word ≡ codes "include" → is_include word included ≡ true
include_there word included once spelled =
    ap (λ t. not t && bytes_eq word (codes "include")) once ∙ (bytes_eq-Decides word (codes "include")).1 spelled

pub begins_none : (word : List ℕ) (said : Said) → is_include word said.included ≡ false → kind_of word ≡ None → use_of word said.included ≡ None
    → BeginsNone word said
begins_none word said no_include no_kind no_use = record { nowhere = by }
  where
    by : (to : Stage) → Leads word (starts said) to → ⊥
    by to (inl h) = false≢true (sym no_include ∙ include_there word said.included h.once h.spelled)
    by to (inr (inl h)) = none-some h.kind (sym no_kind ∙ ap kind_of h.spelled ∙ kind_there h.kind)
    by to (inr (inr h)) = none-some h.usage (sym no_use ∙ use_there word said.included h.usage h.spelled)

in_library : (word : List ℕ) (usage : Use) → flip_of word ≡ Some usage → IsUseWord word true usage
in_library word usage e =
    first (chosen word (codes "x") (Some (Flip 0)) (cond (bytes_eq word (codes "cx")) (Some (Flip 1)) (cond (bytes_eq word (codes "ccx")) (Some (Flip 2)) None))
    usage e)
  where
    third : ((word ≡ codes "ccx") × (Some (Flip 2) ≡ Some usage)) ⊎ (None ≡ Some usage) → IsUseWord word true usage
    third (inl h) = subst (IsUseWord word true) (same_Some (Flip 2) usage h.1) (inr (inr (inr (h.0, refl, refl))))
    third (inr none) = absurd (none-some usage none)

    second : ((word ≡ codes "cx") × (Some (Flip 1) ≡ Some usage)) ⊎ (cond (bytes_eq word (codes "ccx")) (Some (Flip 2)) None ≡ Some usage)
        → IsUseWord word true usage
    second (inl h) = subst (IsUseWord word true) (same_Some (Flip 1) usage h.1) (inr (inl (h.0, refl, refl)))
    second (inr more) = third (chosen word (codes "ccx") (Some (Flip 2)) None usage more)

    first : ((word ≡ codes "x") × (Some (Flip 0) ≡ Some usage))
        ⊎ (cond (bytes_eq word (codes "cx")) (Some (Flip 1)) (cond (bytes_eq word (codes "ccx")) (Some (Flip 2)) None) ≡ Some usage)
        → IsUseWord word true usage
    first (inl h) = subst (IsUseWord word true) (same_Some (Flip 0) usage h.1) (inl (h.0, refl, refl))
    first (inr more) = second (chosen word (codes "cx") (Some (Flip 1)) (cond (bytes_eq word (codes "ccx")) (Some (Flip 2)) None) usage more)

behind_built_in : (word : List ℕ) (included : Bool) (usage : Use) → cond included (flip_of word) None ≡ Some usage → IsUseWord word included usage
behind_built_in word true usage e = in_library word usage e
behind_built_in word false usage e = absurd (none-some usage e)

pub use_found : (word : List ℕ) (included : Bool) (usage : Use) → use_of word included ≡ Some usage → IsUseWord word included usage
use_found word included usage e =
    first (chosen word (codes "barrier") (Some Barrier) (cond (bytes_eq word (codes "CX")) (Some (Flip 1)) (cond included (flip_of word) None)) usage e)
  where
    second : ((word ≡ codes "CX") × (Some (Flip 1) ≡ Some usage)) ⊎ (cond included (flip_of word) None ≡ Some usage) → IsUseWord word included usage
    second (inl h) = subst (IsUseWord word included) (same_Some (Flip 1) usage h.1) (inr (inr (inl (h.0, refl))))
    second (inr more) = behind_built_in word included usage more

    first : ((word ≡ codes "barrier") × (Some Barrier ≡ Some usage))
        ⊎ (cond (bytes_eq word (codes "CX")) (Some (Flip 1)) (cond included (flip_of word) None) ≡ Some usage) → IsUseWord word included usage
    first (inl h) = subst (IsUseWord word included) (same_Some Barrier usage h.1) h.0
    first (inr more) = second (chosen word (codes "CX") (Some (Flip 1)) (cond included (flip_of word) None) usage more)

pub use_begins : (word : List ℕ) (said : Said) (usage : Use) → use_of word said.included ≡ Some usage
    → Leads word (starts said) (wants_argument usage [] said)
use_begins word said usage e = inr (inr (record { usage = usage; spelled = use_found word said.included usage e; leads = refl }))

pub kind_begins : (word : List ℕ) (said : Said) (kind : RegisterKind) → kind_of word ≡ Some kind → Leads word (starts said) (wants_name kind said)
kind_begins word said kind e = inr (inl (record { kind = kind; spelled = kind_found word kind e; leads = refl }))

-- ---- statements, from their first word on

pub statement_read : (old mid new : Left) (word : List ℕ) (at : Place) (before after : Said) → Takes old mid word at → 0 < length word
    → ReadsBehind mid new word before after → ReadsStatement old new before after
statement_read old mid new word at before after takes some read = record {
  reads = reads_then (reads_next (starts before) read.next takes some read.begins) read.reads;
  fewer = let fewer = takes_fewer old mid word at takes some in let within = moves_within read.reads.moves in omega arith;
}

pub statement_stops : (old mid : Left) (word : List ℕ) (at : Place) (said : Said) (fault : QasmFault) → Takes old mid word at → 0 < length word
    → StopsBehind mid word at said fault → IsStop old (starts said) fault
statement_stops old mid word at said fault takes some (inl h) =
    subst (IsStop old (starts said)) (sym h.0)
    (breaks_rule (starts said) takes h.1.nowhere (λ e may. let none = ap length e in absurd (omega arith)) (λ limit. limit))
statement_stops old mid word at said fault takes some (inr h) =
    stops_later fault (reads_next (starts said) h.next takes some h.begins) h.stops

no_use : (included : Bool) → use_of [] included ≡ None
no_use true = refl
no_use false = refl

-- the text ends without a line
pub no_line : (old new : Left) (at : Place) (said : Said) → Takes old new [] at → lines_of_all said.registers ≡ 0 → IsStop old (starts said) (Token at)
no_line old new at said takes none =
    breaks_rule (starts said) takes (λ to leads. nothing to leads) (λ e may. absurd (omega (arith, may, none))) (λ limit. limit)
  where
    nothing : (to : Stage) → Leads [] (starts said) to → ⊥
    nothing to (inl h) = let long = ap length h.spelled in absurd (omega arith)
    nothing to (inr (inl h)) = none-some h.kind (ap kind_of h.spelled ∙ kind_there h.kind)
    nothing to (inr (inr h)) = none-some h.usage (sym (no_use said.included) ∙ use_there [] said.included h.usage h.spelled)

pub include_begins : (word : List ℕ) (said : Said) → is_include word said.included ≡ true → Leads word (starts said) (wants_library said)
include_begins word said e =
    let parts = and_parts (not said.included) (bytes_eq word (codes "include")) e in
    inl (record { spelled = same_word word (codes "include") parts.1; once = not-true said.included parts.0; leads = refl })

-- what a call behind the first word reads, or why it stops
pub goes_behind : {T E : Type 0} (r : Result T E) (old new : Left) (word : List ℕ) (before after : Said) (next : Stage) → Leads word (starts before) next
    → OnOk r (Reads old new next (starts after)) → OnOk r (ReadsBehind old new word before after)
goes_behind (Ok x) old new word before after next begins h = record { next = next; begins = begins; reads = h }
goes_behind (Err e) old new word before after next begins h = tt

pub stops_on : {T : Type 0} (r : Result T QasmFault) (old : Left) (word : List ℕ) (at : Place) (said : Said) (next : Stage) → Leads word (starts said) next
    → IfErr r (IsStop old next) → IfErr r (StopsBehind old word at said)
stops_on (Ok x) old word at said next begins h = tt
stops_on (Err e) old word at said next begins h = inr (record { next = next; begins = begins; stops = h })

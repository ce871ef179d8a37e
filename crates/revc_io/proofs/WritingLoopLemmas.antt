-- A loop that writes a part of a text through a buffer, piece by piece.
use Rattle.std.proofs.Common.{◌≡◌, ℕ, ◌≤◌, List, [], ◌++◌, Result, Ok, Err, refl, sym, subst, ◌∙◌, arith}
use Rattle.std.specs.Prelude.{IsErrAnd}
use Rattle.revc_io.specs.Faults.{HasCause, Rose}
use Rattle.revc_io.specs.Held.{Held, TookFront}
use Rattle.revc_io.specs.Passing.{Gathered, Gathers}
use Rattle.revc_io.proofs.PassingLemmas.{Underway, begun, step, gathered, failed_call}

-- so far a front of the part was gathered behind what waited first, and the sink's count of faults stayed
pub record IsWriting (old now : Held) (before after : ℕ) (first waiting part left : List ℕ) : Type 0 where
  pub text : Underway old now waiting (first ++ part) left
  pub calm : after ≡ before

pub writing_begun : (old : Held) (count : ℕ) (first part left : List ℕ) → left ≡ part → IsWriting old old count count first first part left
writing_begun old count first part left e = record { text = subst (Underway old old first (first ++ part)) (sym e) (begun old first part); calm = refl }

-- a piece was gathered
pub writing_more : {old now new : Held} {before after : ℕ} {first waiting waiting_new part piece : List ℕ} (count : ℕ) (whole left : List ℕ)
    → whole ≡ piece ++ left
    → Gathered now new waiting waiting_new piece → count ≡ after → IsWriting old now before after first waiting part whole
    → IsWriting old new before count first waiting_new part left
writing_more {old} {now} {new} {before} {after} {first} {waiting} {waiting_new} {part} {piece} count whole left e put stays so_far =
    record { text = step piece left put (subst (Underway old now waiting (first ++ part)) e so_far.text); calm = stays ∙ so_far.calm }

-- nothing is left
pub writing_done : {old now : Held} {before after : ℕ} {first waiting part : List ℕ} (left : List ℕ) → left ≡ []
    → IsWriting old now before after first waiting part left → Gathered old now first waiting part
writing_done {old} {now} {before} {after} {first} {waiting} {part} left e so_far = gathered (subst (Underway old now waiting (first ++ part)) e so_far.text)

-- a call failed within a piece
pub writing_failed : {T E : Type 0} {old now new : Held} {before after : ℕ} {waiting waiting_new : List ℕ} (first part whole piece left : List ℕ)
    (Q : E → Type 0) (result : Result T E)
    → whole ≡ piece ++ left → IsErrAnd result Q → TookFront now new (waiting ++ piece) × (waiting_new ≡ [])
    → IsWriting old now before after first waiting part whole
    → Gathers result old new first waiting_new part
writing_failed {T} {E} {old} {now} {new} {before} {after} {waiting} {waiting_new} first part whole piece left Q result e h put so_far =
    failed_call first part piece left Q result h put (subst (Underway old now waiting (first ++ part)) e so_far.text)

-- the count stayed before the call that failed, so it rose since the loop began
pub fault_later : {T E : Type 0} {before mid now : ℕ} (Q : E → Type 0) (result : Result T E) → IsErrAnd result Q → mid ≡ before
    → Rose mid now → mid ≤ now → HasCause before now result
fault_later Q (Ok x) h calm rose later = absurd h
fault_later Q (Err e) h calm rose later = record { later = omega arith; stays = tt; failed = omega arith }

-- no call failed
pub no_fault : {T E : Type 0} {before now : ℕ} (x : T) → now ≡ before → HasCause {T = T} {E = E} before now (Ok x)
no_fault x calm = record { later = omega arith; stays = calm; failed = tt }

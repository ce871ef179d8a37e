-- Calls that fail.
use Rattle.std.proofs.Common.{◌≡◌, Result, Ok, Err, sym, ◌∙◌}
use Rattle.std.specs.Result.{IfOk, IfErr, IsErrAnd, OnOk}
use Rattle.std.proofs.lemmas.Result.{err_from_is_err_and}

-- What a called function's fault says, the exit of its `?` returns.
pub passes_on : {T E : Type 0} {fault : E} (Q : E → Type 0) (r : Result T E) → IsErrAnd r (λ e. e ≡ fault) → Q fault → IfErr r Q
passes_on {T} {E} {fault} Q r e q = let p = err_from_is_err_and r e in rw (p.1, p.2) q

-- A call that failed has one fault.
pub one_fault : {A T E : Type 0} {fault : E} (e : E) (r : Result T E) → IsErrAnd r (λ x. x ≡ fault) → (fault ≡ e → A) → r ≡ Err e → A
one_fault {A} {T} {E} {fault} e r failed say is =
    let p = err_from_is_err_and r failed in
    let first = p.1 in
    let same : p.0 ≡ e = cc in
    say (sym p.2 ∙ same)

-- The exit of a `?` gives no value, so all holds of it.
pub no_value : {T E : Type 0} (r : Result T E) (P : T → Type 0) (Q : E → Type 0) → IsErrAnd r Q → IfOk r P
no_value (Ok x) P Q failed = absurd failed
no_value (Err e) P Q failed = tt

-- Nothing is promised of a value where there is none.
pub no_promise : {T E : Type 0} (r : Result T E) (P : Type 0) (Q : E → Type 0) → IsErrAnd r Q → OnOk r P
no_promise (Ok x) P Q failed = absurd failed
no_promise (Err e) P Q failed = tt

-- Faults that are passed on.
use Rattle.std.proofs.Common.{Result, Ok, Err}
use Rattle.std.specs.Result.{IfOk, IfErr, OnOk}

-- what the last call returns
pub fault_becomes : {T E : Type 0} (P Q : E → Type 0) (r : Result T E) → IfErr r P → ((e : E) → P e → Q e) → IfErr r Q
fault_becomes P Q (Ok x) h f = tt
fault_becomes P Q (Err e) h f = f e h

pub value_becomes : {T E : Type 0} (P Q : T → Type 0) (r : Result T E) → IfOk r P → ((x : T) → P x → Q x) → IfOk r Q
value_becomes P Q (Ok x) h f = f x h
value_becomes P Q (Err e) h f = tt

pub ok_becomes : {T E : Type 0} (P Q : Type 0) (r : Result T E) → OnOk r P → (P → Q) → OnOk r Q
ok_becomes P Q (Ok x) h f = f h
ok_becomes P Q (Err e) h f = tt

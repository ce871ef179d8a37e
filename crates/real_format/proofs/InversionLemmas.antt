-- What the outcome of a step says of its parts.
use Rattle.std.proofs.Common.{◌≡◌, Bool, true, false, if◌then◌else◌, ◌⊎◌, inl, inr, Option, Some, None, Result, Ok, Err, refl}
use Rattle.real_format.specs.declared.refusal.LineRefusal.{LineRefusal}
use Rattle.real_format.specs.declared.refusal.LineRefusal.TheVariants.{Form, Limit}
use Rattle.real_format.specs.inside.Reading.{and_then, or_form}

-- ---- a step that came through

pub else_ok : {A : Type 0} (t : Bool) (refusal : LineRefusal) (r : Result A LineRefusal) (a : A)
    → (if t then Err refusal else r) ≡ Ok a → (t ≡ false) × (r ≡ Ok a)
else_ok true refusal r a e = absurd (cc)
else_ok false refusal r a e = (refl, e)

pub then_ok : {A : Type 0} (t : Bool) (refusal : LineRefusal) (r : Result A LineRefusal) (a : A)
    → (if t then r else Err refusal) ≡ Ok a → (t ≡ true) × (r ≡ Ok a)
then_ok true refusal r a e = (refl, e)
then_ok false refusal r a e = absurd (cc)

pub and_ok : {A B : Type 0} (s : Result A LineRefusal) (f : A → Result B LineRefusal) (b : B) → and_then s f ≡ Ok b → (a : A) × (s ≡ Ok a) × (f a ≡ Ok b)
and_ok (Ok a) f b e = (a, refl, e)
and_ok (Err r) f b e = absurd (cc)

pub or_ok : {A B : Type 0} (s : Option A) (f : A → Result B LineRefusal) (b : B) → or_form s f ≡ Ok b → (a : A) × (s ≡ Some a) × (f a ≡ Ok b)
or_ok (Some a) f b e = (a, refl, e)
or_ok None f b e = absurd (cc)

pub same_ok : {A : Type 0} (a b : A) → ◌≡◌ {A = Result A LineRefusal} (Ok a) (Ok b) → a ≡ b
same_ok a b e = cc

-- ---- a step that passed a limit

pub else_limit : {A : Type 0} (t : Bool) (r : Result A LineRefusal) → (if t then Err Form else r) ≡ Err Limit → (t ≡ false) × (r ≡ Err Limit)
else_limit true r e = absurd (cc)
else_limit false r e = (refl, e)

pub limit_else : {A : Type 0} (t : Bool) (r : Result A LineRefusal) → (if t then Err Limit else r) ≡ Err Limit → (t ≡ true) ⊎ ((t ≡ false) × (r ≡ Err Limit))
limit_else true r e = inl refl
limit_else false r e = inr (refl, e)

pub then_limit : {A : Type 0} (t : Bool) (r : Result A LineRefusal) → (if t then r else Err Form) ≡ Err Limit → (t ≡ true) × (r ≡ Err Limit)
then_limit true r e = (refl, e)
then_limit false r e = absurd (cc)

pub and_limit : {A B : Type 0} (s : Result A LineRefusal) (f : A → Result B LineRefusal) → and_then s f ≡ Err Limit
    → (s ≡ Err Limit) ⊎ ((a : A) × (s ≡ Ok a) × (f a ≡ Err Limit))
and_limit (Ok a) f e = inr (a, refl, e)
and_limit (Err r) f e = inl (cc)

pub or_limit : {A B : Type 0} (s : Option A) (f : A → Result B LineRefusal) → or_form s f ≡ Err Limit → (a : A) × (s ≡ Some a) × (f a ≡ Err Limit)
or_limit (Some a) f e = (a, refl, e)
or_limit None f e = absurd (cc)

pub ok_no_limit : {A B : Type 0} (a : A) → ◌≡◌ {A = Result A LineRefusal} (Ok a) (Err Limit) → B
ok_no_limit a e = absurd (cc)

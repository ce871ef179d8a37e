-- Elements of lists: of lists joined and mapped, and those of a kind.
use Rattle.std.proofs.Common.{◌≡◌, ◌⊎◌, ◌<◌, Bool, true, inl, inr, List, [], ◌∷◌, ◌++◌, length, map, refl, sym, ap, subst, arith}
use Rattle.std.specs.List.{AllByRecursion, list_any, position_or_len}
use Rattle.std.proofs.lemmas.Bool.{cases_Bool, true≢false}
use Rattle.list_facts.specs.Lists.{IsAmong, AnyByRecursion}

-- ---- elements

pub among_left : {A : Type 0} (x : A) (xs ys : List A) → IsAmong x xs → IsAmong x (xs ++ ys)
among_left x [] ys k = absurd k
among_left x (z ∷ zs) ys k = elim k as (λ _. IsAmong x ((z ∷ zs) ++ ys)) [ inl e ↦ inl e | inr later ↦ inr (among_left x zs ys later) ]

pub among_right : {A : Type 0} (x : A) (xs ys : List A) → IsAmong x ys → IsAmong x (xs ++ ys)
among_right x [] ys k = k
among_right x (z ∷ zs) ys k = inr (among_right x zs ys k)

pub among_append : {A : Type 0} (x : A) (xs ys : List A) → IsAmong x (xs ++ ys) → IsAmong x xs ⊎ IsAmong x ys
among_append x [] ys k = inr k
among_append x (z ∷ zs) ys k = elim k as (λ _. IsAmong x (z ∷ zs) ⊎ IsAmong x ys) [
  | inl e ↦ inl (inl e)
  | inr later ↦ elim (among_append x zs ys later) as (λ _. IsAmong x (z ∷ zs) ⊎ IsAmong x ys) [ inl a ↦ inl (inr a) | inr b ↦ inr b ]
]

pub among_map : {A B : Type 0} (f : A → B) (x : A) (xs : List A) → IsAmong x xs → IsAmong (f x) (map f xs)
among_map f x [] k = absurd k
among_map f x (y ∷ ys) k = elim k as (λ _. IsAmong (f x) (map f (y ∷ ys))) [ inl e ↦ inl (ap f e) | inr later ↦ inr (among_map f x ys later) ]

pub among_image : {A B : Type 0} (f : A → B) (z : B) (xs : List A) → IsAmong z (map f xs) → (x : A) × IsAmong x xs × (z ≡ f x)
among_image {A} f z [] k = absurd k
among_image {A} f z (y ∷ ys) k = elim k as (λ _. (x : A) × IsAmong x (y ∷ ys) × (z ≡ f x)) [
  | inl e ↦ (y, inl refl, e)
  | inr later ↦ let found = among_image f z ys later in (found.0, inr found.1, found.2)
]

-- what a function gives of each, one after another
abbrev pub gathered : {A B : Type 0} → (A → List B) → List A → List B
gathered f [] = []
gathered f (x ∷ xs) = f x ++ gathered f xs

pub among_gathered : {A B : Type 0} (f : A → List B) (z : B) (x : A) (xs : List A) → IsAmong x xs → IsAmong z (f x) → IsAmong z (gathered f xs)
among_gathered f z x [] k given = absurd k
among_gathered f z x (y ∷ ys) k given = elim k as (λ _. IsAmong z (gathered f (y ∷ ys))) [
  | inl e ↦ among_left z (f y) (gathered f ys) (subst (λ w. IsAmong z (f w)) e given)
  | inr later ↦ among_right z (f y) (gathered f ys) (among_gathered f z x ys later given)
]

pub among_source : {A B : Type 0} (f : A → List B) (z : B) (xs : List A) → IsAmong z (gathered f xs) → (x : A) × IsAmong x xs × IsAmong z (f x)
among_source {A} f z [] k = absurd k
among_source {A} f z (y ∷ ys) k = elim (among_append z (f y) (gathered f ys) k) as (λ _. (x : A) × IsAmong x (y ∷ ys) × IsAmong z (f x)) [
  | inl here ↦ (y, inl refl, here)
  | inr later ↦ let found = among_source f z ys later in (found.0, inr found.1, found.2)
]

pub any_of : {A : Type 0} (P : A → Type 0) (x : A) (xs : List A) → IsAmong x xs → P x → AnyByRecursion P xs
any_of P x [] k is = absurd k
any_of P x (y ∷ ys) k is = elim k as (λ _. AnyByRecursion P (y ∷ ys)) [ inl e ↦ inl (subst P e is) | inr later ↦ inr (any_of P x ys later is) ]

pub some_of : {A : Type 0} (P : A → Type 0) (xs : List A) → AnyByRecursion P xs → (x : A) × IsAmong x xs × P x
some_of {A} P [] k = absurd k
some_of {A} P (y ∷ ys) k = elim k as (λ _. (x : A) × IsAmong x (y ∷ ys) × P x) [
  | inl is ↦ (y, inl refl, is)
  | inr later ↦ let found = some_of P ys later in (found.0, inr found.1, found.2)
]

-- ---- those of a kind

pub record Sifted {A : Type 0} (P : A → Type 0) (xs : List A) : Type 0 where
  pub kept : List A
  pub are : AllByRecursion P kept
  pub all : (x : A) → IsAmong x xs → P x → IsAmong x kept

pub sifted : {A : Type 0} (P : A → Type 0) (xs : List A) → ((x : A) → IsAmong x xs → P x ⊎ (¬ P x)) → Sifted P xs
sifted P [] decide = record { kept = []; are = tt; all = λ x k is. k }
sifted P (y ∷ ys) decide =
    let rest = sifted P ys (λ x k. decide x (inr k)) in
    elim (decide y (inl refl)) as (λ _. Sifted P (y ∷ ys)) [
      | inl is ↦ record {
        kept = y ∷ rest.kept;
        are = (is, rest.are);
        all = λ x k here. elim k as (λ _. IsAmong x (y ∷ rest.kept)) [ inl e ↦ inl e | inr later ↦ inr (rest.all x later here) ];
      }
      | inr not ↦ record {
        kept = rest.kept;
        are = rest.are;
        all = λ x k here. elim k as (λ _. IsAmong x rest.kept) [ inl e ↦ absurd (not (subst P e here)) | inr later ↦ rest.all x later here ];
      }
    ]

-- ---- all and some

pub all_among : {A : Type 0} (P : A → Type 0) (xs : List A) → AllByRecursion P xs → (x : A) → IsAmong x xs → P x
all_among P [] all x k = absurd k
all_among P (y ∷ ys) all x k = elim k as (λ _. P x) [ inl e ↦ subst P (sym e) all.0 | inr later ↦ all_among P ys all.1 x later ]

pub all_from_among : {A : Type 0} (P : A → Type 0) (xs : List A) → ((x : A) → IsAmong x xs → P x) → AllByRecursion P xs
all_from_among P [] each = tt
all_from_among P (y ∷ ys) each = (each y (inl refl), all_from_among P ys (λ x k. each x (inr k)))

-- ---- the first that passes a test

pub position_among : {X : Type 0} (p : X → Bool) (xs : List X) → list_any p xs ≡ true → position_or_len p xs < length xs
position_among p [] h = absurd (true≢false (sym h))
position_among p (x ∷ xs) h =
    elim (cases_Bool (p x)) [
      | inl e ↦ rw e (omega arith)
      | inr e ↦ let rest : list_any p xs ≡ true = rw e at h in rw e (omega (arith, position_among p xs rest))
    ]

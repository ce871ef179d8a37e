-- Elements of lists that are set, or put together.
use Rattle.std.proofs.Common.{◌≡◌, ◌≢◌, ◌⊎◌, ℕ, ◌+◌, ◌-◌, ◌<◌, ◌==◌, List, ◌++◌, length, get_or, set, slice_get, Some}
use Rattle.std.proofs.Common.{sym, ap, ◌∙◌, inl, inr, arith}
use Rattle.std.proofs.lemmas.Bool.{cases_Bool, eqb-false, eqb-true}
use Rattle.std.proofs.lemmas.List.{get_or_append_left, get_or-set_other, get_or-set_same, length-append, length-set}
use Rattle.std.proofs.Math.Seq.{get_or-append_right}
use Rattle.std.proofs.lemmas.Option.{get_or_from_slice_get, slice_get-get_or, slice_get_within}

pub read_as : {A : Type 0} (xs : List A) (k : ℕ) (x : A) → k < length xs → get_or xs k x ≡ x → slice_get xs k ≡ Some x
read_as xs k x low e = slice_get-get_or xs k x low ∙ ap Some e

-- what is read of a list in which one element was set
pub read_set : {A : Type 0} (xs : List A) (k : ℕ) (x : A) (j : ℕ) (y : A) → slice_get (set xs k x) j ≡ Some y
    → ((k ≡ j) × (y ≡ x)) ⊎ (slice_get xs j ≡ Some y)
read_set {A} xs k x j y e =
    let low : j < length (set xs k x) = slice_get_within (set xs k x) j y e in
    let inside : j < length xs = omega (arith, low, length-set xs k x) in
    elim (cases_Bool (k == j)) as (λ _. ((k ≡ j) × (y ≡ x)) ⊎ (slice_get xs j ≡ Some y)) [
      | inl same ↦
          let at : k ≡ j = eqb-true k j same in
          let here : get_or (set xs j x) j y ≡ x = get_or-set_same xs j x y inside in
          let read : get_or (set xs k x) j y ≡ y = get_or_from_slice_get (set xs k x) j y y e in
          inl (at, sym read ∙ ap (λ (i : ℕ). get_or (set xs i x) j y) at ∙ here)
      | inr other ↦
          let apart : j ≢ k = λ same. eqb-false k j other (sym same) in
          let read : get_or (set xs k x) j y ≡ y = get_or_from_slice_get (set xs k x) j y y e in
          inr (read_as xs j y inside (sym (get_or-set_other xs k j x y apart) ∙ read))
    ]

pub read_front : {A : Type 0} (xs ys : List A) (k : ℕ) (x : A) → slice_get xs k ≡ Some x → slice_get (xs ++ ys) k ≡ Some x
read_front xs ys k x e =
    let low : k < length xs = slice_get_within xs k x e in
    read_as (xs ++ ys) k x (omega (arith, low, length-append xs ys)) (get_or_append_left xs ys x k low ∙ get_or_from_slice_get xs k x x e)

pub read_back : {A : Type 0} (xs ys : List A) (k : ℕ) (x : A) → slice_get ys k ≡ Some x → slice_get (xs ++ ys) (length xs + k) ≡ Some x
read_back xs ys k x e =
    let low : k < length ys = slice_get_within ys k x e in
    let at : length xs + k - length xs ≡ k = omega arith in
    read_as (xs ++ ys) (length xs + k) x (omega (arith, low, length-append xs ys))
    (get_or-append_right xs ys (length xs + k) x (omega arith) ∙ ap (λ (i : ℕ). get_or ys i x) at ∙ get_or_from_slice_get ys k x x e)

-- Lists whose elements are related one by one, and so their options.
use Rattle.std.proofs.Common.{◌≡◌, ℕ, zero, suc, List, [], ◌∷◌, ◌++◌, length, refl, ap}
use Rattle.std.specs.Prelude.{Option, Some, None, slice_get, slice_set, ⊤}

module _ {A C : Type 0} where
  abbrev pub OptionPaired : (A → C → Type 0) → Option A → Option C → Type 0
  OptionPaired R None None = ⊤
  OptionPaired R None (Some y) = ⊥
  OptionPaired R (Some x) None = ⊥
  OptionPaired R (Some x) (Some y) = R x y

  abbrev pub Paired : (A → C → Type 0) → List A → List C → Type 0
  Paired R [] [] = ⊤
  Paired R [] (y ∷ ys) = ⊥
  Paired R (x ∷ xs) [] = ⊥
  Paired R (x ∷ xs) (y ∷ ys) = R x y × Paired R xs ys

  pub option_weaker : (R Q : A → C → Type 0) (x : Option A) (y : Option C) → ((a : A) (c : C) → R a c → Q a c) → OptionPaired R x y → OptionPaired Q x y
  option_weaker R Q None None f h = tt
  option_weaker R Q None (Some y) f h = absurd h
  option_weaker R Q (Some x) None f h = absurd h
  option_weaker R Q (Some x) (Some y) f h = f x y h

  pub weaker : (R Q : A → C → Type 0) (xs : List A) (ys : List C) → ((a : A) (c : C) → R a c → Q a c) → Paired R xs ys → Paired Q xs ys
  weaker R Q [] [] f h = tt
  weaker R Q [] (y ∷ ys) f h = absurd h
  weaker R Q (x ∷ xs) [] f h = absurd h
  weaker R Q (x ∷ xs) (y ∷ ys) f h = (f x y h.0, weaker R Q xs ys f h.1)

  pub pushed : (R : A → C → Type 0) (xs : List A) (ys : List C) (x : A) (y : C) → Paired R xs ys → R x y → Paired R (xs ++ x ∷ []) (ys ++ y ∷ [])
  pushed R [] [] x y h r = (r, tt)
  pushed R [] (v ∷ ys) x y h r = absurd h
  pushed R (u ∷ xs) [] x y h r = absurd h
  pushed R (u ∷ xs) (v ∷ ys) x y h r = (h.0, pushed R xs ys x y h.1 r)

  pub same_length : (R : A → C → Type 0) (xs : List A) (ys : List C) → Paired R xs ys → length xs ≡ length ys
  same_length R [] [] h = refl
  same_length R [] (y ∷ ys) h = absurd h
  same_length R (x ∷ xs) [] h = absurd h
  same_length R (x ∷ xs) (y ∷ ys) h = ap suc (same_length R xs ys h.1)

  pub stored : (R : A → C → Type 0) (xs : List A) (ys : List C) (i : ℕ) (x : A) (y : C) → Paired R xs ys → R x y
      → Paired R (slice_set xs i x) (slice_set ys i y)
  stored R [] [] i x y h r = tt
  stored R [] (v ∷ ys) i x y h r = absurd h
  stored R (u ∷ xs) [] i x y h r = absurd h
  stored R (u ∷ xs) (v ∷ ys) zero x y h r = (r, h.1)
  stored R (u ∷ xs) (v ∷ ys) (suc i) x y h r = (h.0, stored R xs ys i x y h.1 r)

  pub found : (R : A → C → Type 0) (xs : List A) (ys : List C) (i : ℕ) → Paired R xs ys → OptionPaired R (slice_get xs i) (slice_get ys i)
  found R [] [] i h = tt
  found R [] (y ∷ ys) i h = absurd h
  found R (x ∷ xs) [] i h = absurd h
  found R (x ∷ xs) (y ∷ ys) zero h = h.0
  found R (x ∷ xs) (y ∷ ys) (suc i) h = found R xs ys i h.1

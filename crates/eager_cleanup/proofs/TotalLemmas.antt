-- Sums of a function of the numbers below a count.
use Rattle.std.proofs.Common.{◌≡◌, ◌≢◌, ℕ, zero, suc, ◌+◌, ◌<◌, ◌≤◌, inl, inr, List, [], ◌∷◌, ◌++◌, length, take, get_or, refl, sym, ap, ◌∙◌, arith}
use Rattle.std.specs.List.{sum_by}
use Rattle.std.proofs.lemmas.Bool.{cases_eq}
use Rattle.std.proofs.lemmas.List.{take_all, take_more}
use Rattle.std.proofs.lemmas.List.Sums.{sum_by-append, sum_by-cons}
use Rattle.eager_cleanup.specs.inside.Sweeps.{total}

pub total_same : (f g : ℕ → ℕ) (n : ℕ) → ((i : ℕ) → i < n → f i ≡ g i) → total f n ≡ total g n
total_same f g zero same = refl
total_same f g (suc n) same = omega (arith, total_same f g n (λ i low. same i (omega (arith, low))), same n (omega arith))

pub total_no_more : (f g : ℕ → ℕ) (n : ℕ) → ((i : ℕ) → i < n → f i ≤ g i) → total f n ≤ total g n
total_no_more f g zero less = omega arith
total_no_more f g (suc n) less = omega (arith, total_no_more f g n (λ i low. less i (omega (arith, low))), less n (omega arith))

-- one number's part is changed
pub total_changed : (f g : ℕ → ℕ) (n k : ℕ) → k < n → ((i : ℕ) → i < n → i ≢ k → f i ≡ g i) → total f n + g k ≡ total g n + f k
total_changed f g zero k low same = absurd (omega (arith, low))
total_changed f g (suc n) k low same = elim (cases_eq n k) as (λ _. total f (suc n) + g k ≡ total g (suc n) + f k) [
  | inl here ↦
      let before : total f n ≡ total g n = total_same f g n (λ i lower. same i (omega (arith, lower)) (λ e. absurd (omega (arith, lower, e, here)))) in
      omega (arith, before, ap f here, ap g here)
  | inr ne ↦
      let other : n ≢ k = ne in
      let before = total_changed f g n k (omega (arith, low, other)) (λ i lower apart. same i (omega (arith, lower)) apart) in
      omega (arith, before, same n (omega arith) ne)
]

-- one number's part is less by so much
pub total_with : (f g : ℕ → ℕ) (n k more : ℕ) → k < n → ((i : ℕ) → i < n → f i ≤ g i) → f k + more ≤ g k → total f n + more ≤ total g n
total_with f g zero k more low less here = absurd (omega (arith, low))
total_with f g (suc n) k more low less here = elim (cases_eq n k) as (λ _. total f (suc n) + more ≤ total g (suc n)) [
  | inl e ↦
      omega (arith, total_no_more f g n (λ i lower. less i (omega (arith, lower))), ap f e, ap g e, here)
  | inr ne ↦
      let other : n ≢ k = ne in
      omega (arith, total_with f g n k more (omega (arith, low, other)) (λ i lower. less i (omega (arith, lower))) here, less n (omega arith))
]

pub total_longer : (f : ℕ → ℕ) (n m : ℕ) → n ≤ m → total f n ≤ total f m
total_longer f n zero le = let same : n ≡ 0 = omega (arith, le) in omega (arith, ap (total f) same)
total_longer f n (suc m) le = elim (cases_eq n (suc m)) as (λ _. total f n ≤ total f (suc m)) [
  | inl e ↦ omega (arith, ap (total f) e)
  | inr ne ↦ let other : n ≢ suc m = ne in omega (arith, total_longer f n m (omega (arith, le, other)))
]

sum_first : (f : ℕ → ℕ) (xs : List ℕ) (n : ℕ) → n ≤ length xs → sum_by f (take n xs) ≡ total (λ k. f (get_or xs k 0)) n
sum_first f xs zero le = refl
sum_first f xs (suc n) le =
    let next : n + 1 ≡ suc n = omega arith in
    let part : sum_by f (take (suc n) xs) ≡ sum_by f (take n xs ++ get_or xs n 0 ∷ []) =
    ap (λ (m : ℕ). sum_by f (take m xs)) (sym next) ∙ ap (sum_by f) (take_more xs n 0 (omega (arith, le))) in
    omega
    (arith, part, sum_by-append f (take n xs) (get_or xs n 0 ∷ []), sum_by-cons f (get_or xs n 0) [], sum_first f xs n (omega (arith, le)))

-- a sum over a list is one over its places
pub sum_total : (f : ℕ → ℕ) (xs : List ℕ) → sum_by f xs ≡ total (λ k. f (get_or xs k 0)) (length xs)
sum_total f xs = sym (ap (sum_by f) (take_all (length xs) xs (omega arith))) ∙ sum_first f xs (length xs) (omega arith)

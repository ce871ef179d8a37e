-- What holds of each element of a list, through the changes of the list. (`All` of std has the same lemmas under these names.)
use Rattle.std.proofs.Common.{ℕ, zero, suc, ◌+◌, ◌<◌, ◌≤◌, Bool, List, [], ◌∷◌, ◌++◌, length, map, take, drop, set, get_or, reverse, filter, sym, inl, inr}
use Rattle.std.proofs.Common.{◌≡◌, Some, slice_get, subst, arith}
use Rattle.std.specs.List.{AllByRecursion, range_with_len}
use Rattle.list_facts.specs.Lists.{AllFrom}
use Rattle.std.proofs.lemmas.Option.{none-some, same_Some}
use Rattle.std.specs.List.Sorted.{IsPermutation}
use Rattle.std.proofs.lemmas.Bool.{cases_Bool}
use Rattle.std.proofs.lemmas.List.{reverse-append, take_more}
use Rattle.std.proofs.lemmas.List.Elements.{All-from_recursion, recursion_from_All}
use Rattle.std.proofs.lemmas.List.Sorted.{All-permutation}

-- ---- other facts of the same elements

pub AllByRecursion-weaker : {X : Type 0} (P Q : X → Type 0) → ((x : X) → P x → Q x) → (xs : List X) → AllByRecursion P xs → AllByRecursion Q xs
AllByRecursion-weaker P Q f [] p = tt
AllByRecursion-weaker P Q f (x ∷ xs) p = (f x p.0, AllByRecursion-weaker P Q f xs p.1)

pub AllByRecursion-always : {X : Type 0} (P : X → Type 0) → ((x : X) → P x) → (xs : List X) → AllByRecursion P xs
AllByRecursion-always P f [] = tt
AllByRecursion-always P f (x ∷ xs) = (f x, AllByRecursion-always P f xs)

pub AllByRecursion-both : {X : Type 0} (P Q R : X → Type 0) → ((x : X) → P x → Q x → R x) → (xs : List X)
    → AllByRecursion P xs → AllByRecursion Q xs → AllByRecursion R xs
AllByRecursion-both P Q R f [] p q = tt
AllByRecursion-both P Q R f (x ∷ xs) p q = (f x p.0 q.0, AllByRecursion-both P Q R f xs p.1 q.1)

-- ---- lists joined

pub AllByRecursion-append : {X : Type 0} (P : X → Type 0) (xs ys : List X) → AllByRecursion P xs → AllByRecursion P ys → AllByRecursion P (xs ++ ys)
AllByRecursion-append P [] ys p q = q
AllByRecursion-append P (x ∷ xs) ys p q = (p.0, AllByRecursion-append P xs ys p.1 q)

pub AllByRecursion-left : {X : Type 0} (P : X → Type 0) (xs ys : List X) → AllByRecursion P (xs ++ ys) → AllByRecursion P xs
AllByRecursion-left P [] ys p = tt
AllByRecursion-left P (x ∷ xs) ys p = (p.0, AllByRecursion-left P xs ys p.1)

pub AllByRecursion-right : {X : Type 0} (P : X → Type 0) (xs ys : List X) → AllByRecursion P (xs ++ ys) → AllByRecursion P ys
AllByRecursion-right P [] ys p = p
AllByRecursion-right P (x ∷ xs) ys p = AllByRecursion-right P xs ys p.1

pub AllByRecursion-push : {X : Type 0} (P : X → Type 0) (xs : List X) (x : X) → AllByRecursion P xs → P x → AllByRecursion P (xs ++ x ∷ [])
AllByRecursion-push P [] x p is = (is, tt)
AllByRecursion-push P (y ∷ ys) x p is = (p.0, AllByRecursion-push P ys x p.1 is)

pub AllByRecursion-reverse : {X : Type 0} (P : X → Type 0) (xs : List X) → AllByRecursion P xs → AllByRecursion P (reverse xs)
AllByRecursion-reverse P [] p = tt
AllByRecursion-reverse P (x ∷ xs) p =
    subst (AllByRecursion P) (sym (reverse-append (x ∷ []) xs))
    (AllByRecursion-append P (reverse xs) (x ∷ []) (AllByRecursion-reverse P xs p.1) (p.0, tt))

-- ---- parts, and one element

pub AllByRecursion-take : {X : Type 0} (P : X → Type 0) (n : ℕ) (xs : List X) → AllByRecursion P xs → AllByRecursion P (take n xs)
AllByRecursion-take P zero xs p = tt
AllByRecursion-take P (suc n) [] p = tt
AllByRecursion-take P (suc n) (x ∷ xs) p = (p.0, AllByRecursion-take P n xs p.1)

pub AllByRecursion-drop : {X : Type 0} (P : X → Type 0) (n : ℕ) (xs : List X) → AllByRecursion P xs → AllByRecursion P (drop n xs)
AllByRecursion-drop P zero xs p = p
AllByRecursion-drop P (suc n) [] p = tt
AllByRecursion-drop P (suc n) (x ∷ xs) p = AllByRecursion-drop P n xs p.1

pub AllByRecursion-at : {X : Type 0} (P : X → Type 0) (xs : List X) (i : ℕ) (d : X) → AllByRecursion P xs → i < length xs → P (get_or xs i d)
AllByRecursion-at P [] i d p h = absurd (omega arith)
AllByRecursion-at P (x ∷ xs) zero d p h = p.0
AllByRecursion-at P (x ∷ xs) (suc i) d p h = AllByRecursion-at P xs i d p.1 (omega arith)

pub AllByRecursion-more : {X : Type 0} (P : X → Type 0) (xs : List X) (i : ℕ) (d : X) → i < length xs → P (get_or xs i d)
    → AllByRecursion P (take i xs) → AllByRecursion P (take (i + 1) xs)
AllByRecursion-more P xs i d h here p =
    subst (AllByRecursion P) (sym (take_more xs i d h)) (AllByRecursion-push P (take i xs) (get_or xs i d) p here)

pub AllByRecursion-set : {X : Type 0} (P : X → Type 0) (xs : List X) (i : ℕ) (x : X) → AllByRecursion P xs → P x → AllByRecursion P (set xs i x)
AllByRecursion-set P [] i x p is = tt
AllByRecursion-set P (y ∷ ys) zero x p is = (is, p.1)
AllByRecursion-set P (y ∷ ys) (suc i) x p is = (p.0, AllByRecursion-set P ys i x p.1 is)

-- ---- mapped, filtered, a range

pub AllByRecursion-map : {X Y : Type 0} (P : Y → Type 0) (f : X → Y) (xs : List X) → AllByRecursion (λ x. P (f x)) xs → AllByRecursion P (map f xs)
AllByRecursion-map P f [] p = tt
AllByRecursion-map P f (x ∷ xs) p = (p.0, AllByRecursion-map P f xs p.1)

pub AllByRecursion-from_map : {X Y : Type 0} (P : Y → Type 0) (f : X → Y) (xs : List X) → AllByRecursion P (map f xs)
    → AllByRecursion (λ x. P (f x)) xs
AllByRecursion-from_map P f [] p = tt
AllByRecursion-from_map P f (x ∷ xs) p = (p.0, AllByRecursion-from_map P f xs p.1)

pub AllByRecursion-filter : {X : Type 0} (P : X → Type 0) (test : X → Bool) (xs : List X) → AllByRecursion P xs → AllByRecursion P (filter test xs)
AllByRecursion-filter P test [] p = tt
AllByRecursion-filter P test (x ∷ xs) p =
    elim (cases_Bool (test x)) [
      | inl e ↦ rw e (p.0, AllByRecursion-filter P test xs p.1)
      | inr e ↦ rw e (AllByRecursion-filter P test xs p.1)
    ]

pub AllByRecursion-range : {X : Type 0} (P : X → Type 0) (f : ℕ → X) (a n : ℕ) → ((i : ℕ) → a ≤ i → i < a + n → P (f i))
    → AllByRecursion P (map f (range_with_len a n))
AllByRecursion-range P f a zero each = tt
AllByRecursion-range P f a (suc n) each =
    (each a (omega arith) (omega arith), AllByRecursion-range P f (a + 1) n (λ i low high. each i (omega (arith, low)) (omega (arith, high))))

pub AllByRecursion-permutation : {X : Type 0} (P : X → Type 0) (xs ys : List X) → IsPermutation xs ys → AllByRecursion P xs → AllByRecursion P ys
AllByRecursion-permutation P xs ys h a = recursion_from_All P ys (All-permutation P xs ys h (All-from_recursion P xs a))

-- ---- elements with their places

pub AllFrom-push : {X : Type 0} (P : ℕ → X → Type 0) (k : ℕ) (xs : List X) (x : X) → AllFrom P k xs → P (k + length xs) x → AllFrom P k (xs ++ x ∷ [])
AllFrom-push P k [] x known is = (subst (λ (z : ℕ). P z x) (omega arith) is, tt)
AllFrom-push P k (y ∷ ys) x known is = (known.0, AllFrom-push P (k + 1) ys x known.1 (subst (λ (z : ℕ). P z x) (omega arith) is))

all_from_at : {X : Type 0} (P : ℕ → X → Type 0) (k i : ℕ) (xs : List X) (x : X) → AllFrom P k xs → slice_get xs i ≡ Some x → P (k + i) x
all_from_at P k i [] x known is = absurd (none-some x is)
all_from_at P k zero (y ∷ ys) x known is =
    let same : k + 0 ≡ k = omega arith in
    rw same (subst (P k) (same_Some y x is) known.0)
all_from_at P k (suc i) (y ∷ ys) x known is =
    let same : k + suc i ≡ k + 1 + i = omega arith in
    rw same (all_from_at P (k + 1) i ys x known.1 is)

pub AllFrom-at : {X : Type 0} (P : ℕ → X → Type 0) (i : ℕ) (xs : List X) (x : X) → AllFrom P 0 xs → slice_get xs i ≡ Some x → P i x
AllFrom-at P i xs x known is = let same : 0 + i ≡ i = omega arith in rw same at (all_from_at P 0 i xs x known is)

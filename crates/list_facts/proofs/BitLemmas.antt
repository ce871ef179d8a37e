-- Exclusive or on bits, alone and with and.
use Rattle.std.proofs.Common.{◌≡◌, ℕ, zero, suc, ◌+◌, ◌%◌, ◌<◌, ◌==◌, ◌⊎◌, inl, inr, Bool, true, false, not, ◌&&◌, cond, refl, sym, ap, ◌∙◌, arith}
use Rattle.std.specs.Bool.{xor}
use Rattle.list_facts.proofs.TableLemmas.{of_one_bit, of_two_bits, of_three_bits}

-- ---- alone

pub xor_one : (v : Bool) → xor true v ≡ not v
unfolding mathlib.Core.Bool.xor
xor_one = of_one_bit (λ v. xor true v) not refl

pub xor_none : (v : Bool) → xor false v ≡ v
unfolding mathlib.Core.Bool.xor
xor_none = of_one_bit (λ v. xor false v) (λ v. v) refl

pub xor_nothing : (v : Bool) → xor v false ≡ v
unfolding mathlib.Core.Bool.xor
xor_nothing = of_one_bit (λ v. xor v false) (λ v. v) refl

pub xor_same : (v : Bool) → xor v v ≡ false
unfolding mathlib.Core.Bool.xor
xor_same = of_one_bit (λ v. xor v v) (λ v. false) refl

pub xor_swap : (a b : Bool) → xor a b ≡ xor b a
unfolding mathlib.Core.Bool.xor
xor_swap = of_two_bits (λ a b. xor a b) (λ a b. xor b a) refl

pub xor_left : (v l r : Bool) → xor v (xor l r) ≡ xor (xor v l) r
unfolding mathlib.Core.Bool.xor
xor_left = of_three_bits (λ v l r. xor v (xor l r)) (λ v l r. xor (xor v l) r) refl

pub xor_right : (v l r : Bool) → xor v (xor l r) ≡ xor l (xor v r)
xor_right v l r = xor_left v l r ∙ rw (xor_swap v l) (sym (xor_left l v r))

pub xor_both : (v l r : Bool) → xor l r ≡ xor (xor v l) (xor v r)
unfolding mathlib.Core.Bool.xor
xor_both = of_three_bits (λ v l r. xor l r) (λ v l r. xor (xor v l) (xor v r)) refl

pub xor_twice : (a b : Bool) → a ≡ xor (xor b a) b
unfolding mathlib.Core.Bool.xor
xor_twice = of_two_bits (λ a b. a) (λ a b. xor (xor b a) b) refl

-- ---- with and

pub and_nothing : (v : Bool) → (v && false) ≡ false
and_nothing true = refl
and_nothing false = refl

pub xor-and_left : (a b c : Bool) → xor (a && c) (b && c) ≡ (xor a b && c)
unfolding mathlib.Core.Bool.xor
xor-and_left = of_three_bits (λ a b c. xor (a && c) (b && c)) (λ a b c. xor a b && c) refl

pub xor-and_right : (a b c : Bool) → xor (c && a) (c && b) ≡ (c && xor a b)
xor-and_right a b true = refl
xor-and_right a b false = xor_same false

-- ---- with comparisons

pub not-beq : (a b : Bool) → not (mathlib.Core.Bool.beq a b) ≡ xor a b
unfolding mathlib.Core.Bool.xor
not-beq = of_two_bits (λ a b. not (mathlib.Core.Bool.beq a b)) (λ a b. xor a b) refl

-- ---- as numbers

pub bit_cases : (x : ℕ) → x < 2 → (x ≡ 0) ⊎ (x ≡ 1)
bit_cases zero h = inl refl
bit_cases (suc zero) h = inr refl
bit_cases (suc (suc x)) h = absurd (omega arith)

pub is_one-sum : (x y : ℕ) → x < 2 → y < 2 → ((x + y) % 2 == 1) ≡ xor (x == 1) (y == 1)
unfolding mathlib.Core.Bool.xor
is_one-sum x y h k =
    elim (bit_cases x h) [
      | inl e ↦ elim (bit_cases y k) [ inl f ↦ rw (e, f) refl | inr f ↦ rw (e, f) refl ]
      | inr e ↦ elim (bit_cases y k) [ inl f ↦ rw (e, f) refl | inr f ↦ rw (e, f) refl ]
    ]

-- ---- parities

abbrev pub odd : ℕ → Bool
odd zero = false
odd (suc n) = not (odd n)

pub odd-plus : (b : Bool) (n : ℕ) → odd (cond b 1 0 + n) ≡ xor b (odd n)
odd-plus true n = let e : 1 + n ≡ suc n = omega arith in ap odd e ∙ sym (xor_one (odd n))
odd-plus false n = let e : 0 + n ≡ n = omega arith in ap odd e ∙ sym (xor_none (odd n))

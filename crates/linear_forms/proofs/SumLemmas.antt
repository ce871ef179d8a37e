-- Exclusive sums over the numbers below a number, and over a list.
use Rattle.std.proofs.Common.{◌≡◌, ℕ, zero, suc, ◌<◌, Bool, true, false, ◌&&◌, List, [], ◌∷◌, refl, sym, ap, ◌∙◌, arith}
use Rattle.std.specs.Bool.{xor}
use Rattle.list_facts.proofs.BitLemmas.{xor_none, xor-and_left, xor-and_right, and_nothing}
use Rattle.list_facts.proofs.TableLemmas.{of_two_bits, of_three_bits}
use Rattle.linear_forms.specs.Sums.{xor_below, xor_by, matrix_sum, SymmetricSumsAreDiagonal, SumsAreBilinear}

-- ---- bits

-- (a + b) + (c + d) = (a + c) + (b + d)
pub xor_across : (a b c d : Bool) → xor (xor a b) (xor c d) ≡ xor (xor a c) (xor b d)
unfolding mathlib.Core.Bool.xor
xor_across true = of_three_bits (λ b c d. xor (xor true b) (xor c d)) (λ b c d. xor (xor true c) (xor b d)) refl
xor_across false = of_three_bits (λ b c d. xor (xor false b) (xor c d)) (λ b c d. xor (xor false c) (xor b d)) refl

cancelled : (a x q : Bool) → xor (xor a x) (xor x q) ≡ xor a q
unfolding mathlib.Core.Bool.xor
cancelled = of_three_bits (λ a x q. xor (xor a x) (xor x q)) (λ a x q. xor a q) refl

and_twice : (a : Bool) → (a && a) ≡ a
and_twice true = refl
and_twice false = refl

and_swap : (a b : Bool) → (a && b) ≡ (b && a)
and_swap = of_two_bits (λ a b. a && b) (λ a b. b && a) refl

pub and_across : (a b c d : Bool) → ((a && b) && (c && d)) ≡ ((a && c) && (b && d))
and_across true = of_three_bits (λ b c d. (true && b) && (c && d)) (λ b c d. (true && c) && (b && d)) refl
and_across false = of_three_bits (λ b c d. (false && b) && (c && d)) (λ b c d. (false && c) && (b && d)) refl

-- ---- below a number

pub same_below : (n : ℕ) (f g : ℕ → Bool) → ((i : ℕ) → i < n → f i ≡ g i) → xor_below n f ≡ xor_below n g
same_below zero f g same = refl
same_below (suc n) f g same = rw (same n (omega arith), same_below n f g (λ i low. same i (omega arith))) refl

pub both_below : (n : ℕ) (f g : ℕ → Bool) → xor_below n (λ i. xor (f i) (g i)) ≡ xor (xor_below n f) (xor_below n g)
both_below zero f g = sym (xor_none false)
both_below (suc n) f g = ap (xor (xor (f n) (g n))) (both_below n f g) ∙ xor_across (f n) (g n) (xor_below n f) (xor_below n g)

pub and_below : (n : ℕ) (f : ℕ → Bool) (c : Bool) → (xor_below n f && c) ≡ xor_below n (λ i. f i && c)
and_below zero f c = refl
and_below (suc n) f c = sym (xor-and_left (f n) (xor_below n f) c) ∙ ap (xor (f n && c)) (and_below n f c)

pub and_below_right : (n : ℕ) (f : ℕ → Bool) (c : Bool) → (c && xor_below n f) ≡ xor_below n (λ i. c && f i)
and_below_right zero f c = and_nothing c
and_below_right (suc n) f c = sym (xor-and_right (f n) (xor_below n f) c) ∙ ap (xor (c && f n)) (and_below_right n f c)

-- ---- the two laws

pub symmetric : SymmetricSumsAreDiagonal
symmetric zero matrix b same = refl
symmetric (suc n) matrix b same =
    let term : ℕ → ℕ → Bool = λ i j. matrix i j && (b i && b j) in
    let column : xor_below n (λ i. term i n) ≡ xor_below n (λ j. term n j) =
    same_below n (λ i. term i n) (λ j. term n j) (λ i low. rw (same i n (omega arith) (omega arith), and_swap (b i) (b n)) refl)
    in
    ap (xor (xor (term n n) (xor_below n (term n)))) (both_below n (λ i. term i n) (λ i. xor_below n (term i)) ∙ ap (λ x. xor x (matrix_sum n matrix b)) column)
    ∙ cancelled (term n n) (xor_below n (term n)) (matrix_sum n matrix b)
    ∙ ap (λ bit. xor (matrix n n && bit) (matrix_sum n matrix b)) (and_twice (b n))
    ∙ ap (xor (matrix n n && b n)) (symmetric n matrix b (λ i j low also. same i j (omega arith) (omega arith)))

pub bilinear : SumsAreBilinear
bilinear n s t b =
    and_below n (λ i. s i && b i) (xor_below n (λ j. t j && b j))
    ∙ same_below n (λ i. (s i && b i) && xor_below n (λ j. t j && b j)) (λ i. xor_below n (λ j. (s i && t j) && (b i && b j)))
    (λ i low. and_below_right n (λ j. t j && b j) (s i && b i)
    ∙ same_below n (λ j. (s i && b i) && (t j && b j)) (λ j. (s i && t j) && (b i && b j)) (λ j also. and_across (s i) (b i) (t j) (b j)))

-- ---- over a list

pub same_by : {A : Type 0} (f g : A → Bool) (xs : List A) → ((x : A) → f x ≡ g x) → xor_by f xs ≡ xor_by g xs
same_by f g [] same = refl
same_by f g (x ∷ xs) same = rw (same x, same_by f g xs same) refl

pub both_by : {A : Type 0} (f g : A → Bool) (xs : List A) → xor_by (λ x. xor (f x) (g x)) xs ≡ xor (xor_by f xs) (xor_by g xs)
both_by f g [] = sym (xor_none false)
both_by f g (x ∷ xs) = ap (xor (xor (f x) (g x))) (both_by f g xs) ∙ xor_across (f x) (g x) (xor_by f xs) (xor_by g xs)

pub and_by : {A : Type 0} (f : A → Bool) (c : Bool) (xs : List A) → (xor_by f xs && c) ≡ xor_by (λ x. f x && c) xs
and_by f c [] = refl
and_by f c (x ∷ xs) = sym (xor-and_left (f x) (xor_by f xs) c) ∙ ap (xor (f x && c)) (and_by f c xs)

-- sums over a list and below a number, in either order
pub none_below : (n : ℕ) → xor_below n (λ i. false) ≡ false
none_below zero = refl
none_below (suc n) = xor_none (xor_below n (λ i. false)) ∙ none_below n

pub exchange : {A : Type 0} (n : ℕ) (f : A → ℕ → Bool) (xs : List A)
    → xor_by (λ x. xor_below n (f x)) xs ≡ xor_below n (λ i. xor_by (λ x. f x i) xs)
exchange n f [] = sym (none_below n)
exchange n f (x ∷ xs) = ap (xor (xor_below n (f x))) (exchange n f xs) ∙ sym (both_below n (f x) (λ i. xor_by (λ y. f y i) xs))

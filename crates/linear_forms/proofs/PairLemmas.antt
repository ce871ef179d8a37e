-- Pairs of factors over a basis.
use Rattle.std.proofs.Common.{◌≡◌, ℕ, ◌<◌, ◌==◌, min, bit_and, bit_xor, Bool, true, false, ◌&&◌, List, refl, sym, ap, ◌∙◌, inl, inr}
use Rattle.std.specs.Bool.{xor}
use Rattle.std.specs.Int.{bit_at}
use Rattle.std.proofs.lemmas.Nat.Bits.{bit_at-lt, bit_at-zero, bit_at_and, bit_at_xor}
use Rattle.list_facts.proofs.BitLemmas.{xor-and_left, is_one-sum, bit_cases}
use Rattle.list_facts.proofs.TableLemmas.{of_three_bits}
use Rattle.linear_forms.specs.declared.pairs.Factor.{Factor}
use Rattle.linear_forms.specs.declared.pairs.Pair.{Pair}
use Rattle.linear_forms.specs.Sums.{xor_below, xor_by, matrix_sum}
use Rattle.linear_forms.specs.Pairs.{IsSumOf, alone_in, is_in, pair_value, times}
use Rattle.linear_forms.proofs.SumLemmas.{and_below_right, and_by, bilinear, both_below, both_by, exchange, same_below, same_by, symmetric}

-- ---- words as sets

pub in_both : (a b i : ℕ) → is_in (bit_and a b) i ≡ (is_in a i && is_in b i)
in_both a b i = ap (λ n. n == 1) (bit_at_and a b i) ∙ least (bit_at a i) (bit_at b i) (bit_at-lt a i) (bit_at-lt b i)
  where
    least : (x y : ℕ) → x < 2 → y < 2 → (min x y == 1) ≡ ((x == 1) && (y == 1))
    least x y h k =
        elim (bit_cases x h) [
          | inl e ↦ elim (bit_cases y k) [ inl f ↦ rw (e, f) refl | inr f ↦ rw (e, f) refl ]
          | inr e ↦ elim (bit_cases y k) [ inl f ↦ rw (e, f) refl | inr f ↦ rw (e, f) refl ]
        ]

pub in_one : (a b i : ℕ) → is_in (bit_xor a b) i ≡ xor (is_in a i) (is_in b i)
in_one a b i = ap (λ n. n == 1) (bit_at_xor a b i) ∙ is_one-sum (bit_at a i) (bit_at b i) (bit_at-lt a i) (bit_at-lt b i)

pub in_none : (i : ℕ) → is_in 0 i ≡ false
in_none i = ap (λ n. n == 1) (bit_at-zero i)

-- ---- sums of members

abbrev member_sum : ℕ → (ℕ → Bool) → (ℕ → Bool) → Bool
member_sum size value s = xor_below size (λ i. s i && value i)

member-plus : (size : ℕ) (value s t : ℕ → Bool)
    → xor (member_sum size value s) (member_sum size value t) ≡ member_sum size value (λ i. xor (s i) (t i))
member-plus size value s t =
    sym (both_below size (λ i. s i && value i) (λ i. t i && value i))
    ∙ same_below size (λ i. xor (s i && value i) (t i && value i)) (λ i. xor (s i) (t i) && value i) (λ i low. xor-and_left (s i) (t i) (value i))

and_left : (a b c : Bool) → (a && (b && c)) ≡ ((a && b) && c)
and_left = of_three_bits (λ a b c. a && (b && c)) (λ a b c. (a && b) && c) refl

member-times : (size : ℕ) (value s : ℕ → Bool) (c : Bool) → (c && member_sum size value s) ≡ member_sum size value (λ i. c && s i)
member-times size value s c =
    and_below_right size (λ i. s i && value i) c
    ∙ same_below size (λ i. c && (s i && value i)) (λ i. (c && s i) && value i) (λ i low. and_left c (s i) (value i))

members : (size : ℕ) (value : ℕ → Bool) (f : Pair → ℕ → Bool) (ps : List Pair)
    → xor_by (λ p. member_sum size value (f p)) ps ≡ member_sum size value (λ i. xor_by (λ p. f p i) ps)
members size value f ps =
    exchange size (λ p i. f p i && value i) ps
    ∙ same_below size (λ i. xor_by (λ p. f p i && value i) ps) (λ i. xor_by (λ p. f p i) ps && value i)
    (λ i low. sym (and_by (λ p. f p i) (value i) ps))

matrices : (size : ℕ) (value : ℕ → Bool) (m : Pair → ℕ → ℕ → Bool) (ps : List Pair)
    → xor_by (λ p. matrix_sum size (m p) value) ps ≡ matrix_sum size (λ i j. xor_by (λ p. m p i j) ps) value
matrices size value m ps =
    exchange size (λ p i. xor_below size (λ j. m p i j && (value i && value j))) ps
    ∙ same_below size (λ i. xor_by (λ p. xor_below size (λ j. m p i j && (value i && value j))) ps)
    (λ i. xor_below size (λ j. xor_by (λ p. m p i j) ps && (value i && value j)))
    (λ i low. exchange size (λ p j. m p i j && (value i && value j)) ps
    ∙ same_below size (λ j. xor_by (λ p. m p i j && (value i && value j)) ps) (λ j. xor_by (λ p. m p i j) ps && (value i && value j))
    (λ j also. sym (and_by (λ p. m p i j) (value i && value j) ps)))

-- ---- one product

-- (c + a)(d + b) = cd + (ab + (cb + da))
opened : (c d a b : Bool) → (xor c a && xor d b) ≡ xor (c && d) (xor (a && b) (xor (c && b) (d && a)))
unfolding mathlib.Core.Bool.xor
opened true = of_three_bits (λ d a b. xor true a && xor d b) (λ d a b. xor (true && d) (xor (a && b) (xor (true && b) (d && a)))) refl
opened false = of_three_bits (λ d a b. xor false a && xor d b) (λ d a b. xor (false && d) (xor (a && b) (xor (false && b) (d && a)))) refl

abbrev crossed : Pair → ℕ → ℕ → Bool
crossed p i j = is_in p.first.set i && is_in p.second.set j

abbrev linear : Pair → ℕ → Bool
linear p i = xor (p.first.one && is_in p.second.set i) (p.second.one && is_in p.first.set i)

one_pair : (size : ℕ) (value : ℕ → Bool) (p : Pair)
    → pair_value size value p ≡ xor (p.first.one && p.second.one) (xor (matrix_sum size (crossed p) value) (member_sum size value (linear p)))
one_pair size value p =
    let a = is_in p.first.set in
    let b = is_in p.second.set in
    let c = p.first.one in
    let d = p.second.one in
    let alone : xor (c && member_sum size value b) (d && member_sum size value a) ≡ member_sum size value (linear p) =
    ap (λ x. xor x (d && member_sum size value a)) (member-times size value b c)
    ∙ ap (xor (member_sum size value (λ i. c && b i))) (member-times size value a d)
    ∙ member-plus size value (λ i. c && b i) (λ i. d && a i)
    in
    opened c d (member_sum size value a) (member_sum size value b)
    ∙ ap (λ x. xor (c && d) (xor x (xor (c && member_sum size value b) (d && member_sum size value a)))) (bilinear size a b value)
    ∙ ap (λ x. xor (c && d) (xor (matrix_sum size (crossed p) value) x)) alone

-- ---- all products

pub sum_is : (size : ℕ) (ps : List Pair) (sum : Factor) → ((i j : ℕ) → i < size → times ps i j ≡ times ps j i)
    → ((i : ℕ) → is_in sum.set i ≡ xor_by (λ p. alone_in p i) ps) → sum.one ≡ xor_by (λ (p : Pair). p.first.one && p.second.one) ps → IsSumOf size ps sum
sum_is size ps sum same set one value =
    let ones : Pair → Bool = λ p. p.first.one && p.second.one in
    let crosses : Pair → Bool = λ p. matrix_sum size (crossed p) value in
    let lines : Pair → Bool = λ p. member_sum size value (linear p) in
    let parts : xor_by (pair_value size value) ps ≡ xor (xor_by ones ps) (xor (xor_by crosses ps) (xor_by lines ps)) =
    same_by (pair_value size value) (λ p. xor (ones p) (xor (crosses p) (lines p))) ps (one_pair size value)
    ∙ both_by ones (λ p. xor (crosses p) (lines p)) ps
    ∙ ap (xor (xor_by ones ps)) (both_by crosses lines ps)
    in
    let diagonal : xor_by crosses ps ≡ member_sum size value (λ i. times ps i i) =
    matrices size value crossed ps ∙ symmetric size (times ps) value (λ i j low also. same i j low)
    in
    let all : xor (xor_by crosses ps) (xor_by lines ps) ≡ member_sum size value (is_in sum.set) =
    ap (λ x. xor x (xor_by lines ps)) diagonal
    ∙ ap (xor (member_sum size value (λ i. times ps i i))) (members size value linear ps)
    ∙ member-plus size value (λ i. times ps i i) (λ i. xor_by (λ p. linear p i) ps)
    ∙ same_below size (λ i. xor (times ps i i) (xor_by (λ p. linear p i) ps) && value i) (λ i. is_in sum.set i && value i)
    (λ i low. ap (λ x. x && value i) (sym (set i ∙ both_by (λ p. crossed p i i) (λ p. linear p i) ps)))
    in
    parts ∙ ap (λ x. xor x (xor (xor_by crosses ps) (xor_by lines ps))) (sym one) ∙ ap (xor sum.one) all

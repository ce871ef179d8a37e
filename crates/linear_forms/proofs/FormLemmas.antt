-- Values of forms.
use mir.Val.{bool_byte}
use Rattle.std.proofs.Common.{◌≡◌, ◌≢◌, ◌⊎◌, inl, inr, ℕ, zero, suc, ◌+◌, ◌-◌, ◌*◌, ◌/◌, ◌%◌, ◌^◌, ◌<◌, ◌≤◌, ◌==◌, Bool, true, false}
use Rattle.std.proofs.Common.{not, ◌&&◌, List, [], ◌∷◌, ◌++◌, length, drop, get_or, bit_xor, refl, sym, ap, subst, ◌∙◌, arith, below_more}
use Rattle.std.specs.Bool.{xor}
use Rattle.std.specs.Ordering.{is_ge, is_le}
use Rattle.std.specs.declared.cmp.Ordering.{Ordering}
use Rattle.std.specs.declared.cmp.Ordering.TheVariants.{Less, Equal, Greater}
use Rattle.std.proofs.lemmas.List.{drop_all}
use Rattle.std.proofs.lemmas.Nat.Bits.{bit_at-pow_other, bit_at-pow_same}
use Rattle.list_facts.proofs.BitLemmas.{not-beq, xor_left, xor_none, xor_nothing, xor_right, xor_same}
use Rattle.std.proofs.Math.Pow.{pow-lt}
use Rattle.list_facts.proofs.CutLemmas.{advanced, at_most_one}
use Rattle.linear_forms.specs.declared.form.Term.{Term}
use Rattle.linear_forms.specs.Sums.{xor_below, xor_by}
use Rattle.linear_forms.specs.Pairs.{is_in}
use Rattle.linear_forms.specs.Forms.{AreSum, AreTaken, FormView, form_value, taken_value, term_value, terms_value, word_value}
use Rattle.linear_forms.proofs.DeriveLemmas.{word-none, word-plus}
use Rattle.linear_forms.proofs.SumLemmas.{none_below, same_below, xor_across}

-- ---- terms

pub none_value : (atom : ℕ → Bool) → terms_value atom [] ≡ false
unfolding terms_value
none_value atom = refl

pub more_value : (atom : ℕ → Bool) (t : Term) (ts : List Term) → terms_value atom (t ∷ ts) ≡ xor (term_value atom t) (terms_value atom ts)
unfolding terms_value
more_value atom t ts = refl

pub xor_by-append : {A : Type 0} (f : A → Bool) (a b : List A) → xor_by f (a ++ b) ≡ xor (xor_by f a) (xor_by f b)
xor_by-append f [] b = sym (xor_none (xor_by f b))
xor_by-append f (x ∷ a) b = ap (xor (f x)) (xor_by-append f a b) ∙ xor_left (f x) (xor_by f a) (xor_by f b)

pub value-append : (atom : ℕ → Bool) (a b : List Term) → terms_value atom (a ++ b) ≡ xor (terms_value atom a) (terms_value atom b)
unfolding terms_value
value-append atom a b = xor_by-append (term_value atom) a b

pub one_term : (atom : ℕ → Bool) (t : Term) → terms_value atom (t ∷ []) ≡ term_value atom t
one_term atom t = more_value atom t [] ∙ ap (xor (term_value atom t)) (none_value atom) ∙ xor_nothing (term_value atom t)

pub pushed : (atom : ℕ → Bool) (now old : List Term) (t : Term) → now ≡ old ++ t ∷ [] → terms_value atom now ≡ xor (terms_value atom old) (term_value atom t)
pushed atom now old t is = ap (terms_value atom) is ∙ value-append atom old (t ∷ []) ∙ ap (xor (terms_value atom old)) (one_term atom t)

pub no_word : (atom : ℕ → Bool) (sum : List Term) (place word : ℕ) → word ≡ 0 → terms_value atom sum ≡ xor (terms_value atom sum) (word_value atom place word)
no_word atom sum place word is =
    sym (ap (λ w. xor (terms_value atom sum) (word_value atom place w)) is ∙ ap (xor (terms_value atom sum)) (word-none atom place)
    ∙ xor_nothing (terms_value atom sum))

-- two terms of one place
pub both_words : (atom : ℕ → Bool) (x y : Term) (old now : List Term) → x.place ≡ y.place
    → terms_value atom now ≡ xor (terms_value atom old) (word_value atom x.place (bit_xor x.word y.word))
    → terms_value atom now ≡ xor (terms_value atom old) (xor (term_value atom x) (term_value atom y))
both_words atom x y old now same is =
    is ∙ ap (xor (terms_value atom old)) (word-plus atom x.place x.word y.word
    ∙ ap (λ p. xor (term_value atom x) (word_value atom p y.word)) same)

-- ---- two lists side by side

after_values : (atom : ℕ → Bool) (x y : Term) (xs ys : List Term) (s now : Bool) (o : Ordering) → now ≡ xor s (taken_value atom x y o)
    → xor now (xor (terms_value atom (drop (bool_byte (is_le o)) (x ∷ xs))) (terms_value atom (drop (bool_byte (is_ge o)) (y ∷ ys))))
    ≡ xor s (xor (terms_value atom (x ∷ xs)) (terms_value atom (y ∷ ys)))
after_values atom x y xs ys s now Less is =
    let behind : Bool = terms_value atom (y ∷ ys) in
    ap (λ n. xor n (xor (terms_value atom xs) behind)) is
    ∙ sym (xor_left s (term_value atom x) (xor (terms_value atom xs) behind))
    ∙ ap (xor s) (xor_left (term_value atom x) (terms_value atom xs) behind ∙ ap (λ q. xor q behind) (sym (more_value atom x xs)))
after_values atom x y xs ys s now Equal is =
    ap (λ n. xor n (xor (terms_value atom xs) (terms_value atom ys))) is
    ∙ sym (xor_left s (xor (term_value atom x) (term_value atom y)) (xor (terms_value atom xs) (terms_value atom ys)))
    ∙ ap (xor s) (xor_across (term_value atom x) (term_value atom y) (terms_value atom xs) (terms_value atom ys)
    ∙ ap (λ q. xor q (xor (term_value atom y) (terms_value atom ys))) (sym (more_value atom x xs))
    ∙ ap (xor (terms_value atom (x ∷ xs))) (sym (more_value atom y ys)))
after_values atom x y xs ys s now Greater is =
    let front : Bool = terms_value atom (x ∷ xs) in
    ap (λ n. xor n (xor front (terms_value atom ys))) is
    ∙ sym (xor_left s (term_value atom y) (xor front (terms_value atom ys)))
    ∙ ap (xor s) (xor_right (term_value atom y) front (terms_value atom ys) ∙ ap (xor front) (sym (more_value atom y ys)))

-- what was added of two lists as far as i and j, and what is left of both
pub record IsAddedSoFar (left right sum : List Term) (i j : ℕ) : Type 0 where
  pub in_left : i ≤ length left
  pub in_right : j ≤ length right
  pub all : (atom : ℕ → Bool)
      → xor (terms_value atom sum) (xor (terms_value atom (drop i left)) (terms_value atom (drop j right)))
      ≡ xor (terms_value atom left) (terms_value atom right)

pub none_added : (left right : List Term) → IsAddedSoFar left right [] 0 0
none_added left right = record {
  in_left = omega arith;
  in_right = omega arith;
  all = λ atom.
      ap (λ n. xor n (xor (terms_value atom left) (terms_value atom right))) (none_value atom)
      ∙ xor_none (xor (terms_value atom left) (terms_value atom right));
}

drop_here : (xs : List Term) (i : ℕ) (d : Term) → i < length xs → drop i xs ≡ get_or xs i d ∷ drop (suc i) xs
drop_here xs i d low = let none : i + 0 ≡ i = omega arith in ap (λ n. drop n xs) (sym none) ∙ advanced xs i d false low

pub added_step : (d : Term) (left right old now : List Term) (i j m n : ℕ) (o : Ordering) → i < length left → j < length right
    → m ≡ bool_byte (is_le o) → n ≡ bool_byte (is_ge o) → AreTaken old now (get_or left i d) (get_or right j d) o
    → IsAddedSoFar left right old i j → IsAddedSoFar left right now (i + m) (j + n)
added_step d left right old now i j m n o low high by_left by_right taken so_far = record {
  in_left = at_most_one i (length left) m (is_le o) low by_left;
  in_right = at_most_one j (length right) n (is_ge o) high by_right;
  all = λ atom.
      let x : Term = get_or left i d in
      let y : Term = get_or right j d in
      let s : Bool = terms_value atom old in
      let one : drop (i + m) left ≡ drop (bool_byte (is_le o)) (x ∷ drop (suc i) left) =
      ap (λ k. drop (i + k) left) by_left ∙ advanced left i d (is_le o) low in
      let other : drop (j + n) right ≡ drop (bool_byte (is_ge o)) (y ∷ drop (suc j) right) =
      ap (λ k. drop (j + k) right) by_right ∙ advanced right j d (is_ge o) high in
      ap (λ ts. xor (terms_value atom now) (xor (terms_value atom ts) (terms_value atom (drop (j + n) right)))) one
      ∙ ap (λ ts. xor (terms_value atom now) (xor (terms_value atom (drop (bool_byte (is_le o)) (x ∷ drop (suc i) left))) (terms_value atom ts))) other
      ∙ after_values atom x y (drop (suc i) left) (drop (suc j) right) s (terms_value atom now) o (taken atom)
      ∙ ap (λ ts. xor s (xor (terms_value atom ts) (terms_value atom (y ∷ drop (suc j) right)))) (sym (drop_here left i d low))
      ∙ ap (λ ts. xor s (xor (terms_value atom (drop i left)) (terms_value atom ts))) (sym (drop_here right j d high))
      ∙ so_far.all atom;
}

pub all_added : (left right sum : List Term) (i j : ℕ) → IsAddedSoFar left right sum i j → AreSum left right ((sum ++ drop i left) ++ drop j right)
all_added left right sum i j so_far atom =
    value-append atom (sum ++ drop i left) (drop j right)
    ∙ ap (λ b. xor b (terms_value atom (drop j right))) (value-append atom sum (drop i left))
    ∙ sym (xor_left (terms_value atom sum) (terms_value atom (drop i left)) (terms_value atom (drop j right)))
    ∙ so_far.all atom

-- ---- forms

pub value_is : (atom : ℕ → Bool) (f : FormView) → form_value atom f ≡ xor f.one (terms_value atom f.terms)
unfolding form_value
value_is atom f = refl

pub no_atoms : (atom : ℕ → Bool) (f : FormView) → f.terms ≡ [] → form_value atom f ≡ f.one
no_atoms atom f none = value_is atom f ∙ ap (xor f.one) (ap (terms_value atom) none ∙ none_value atom) ∙ xor_nothing f.one

pub sum_of_forms : (atom : ℕ → Bool) (f g sum : FormView) → sum.one ≡ not (mathlib.Core.Bool.beq f.one g.one) → AreSum f.terms g.terms sum.terms
    → form_value atom sum ≡ xor (form_value atom f) (form_value atom g)
sum_of_forms atom f g sum one terms =
    let a : Bool = terms_value atom f.terms in
    let b : Bool = terms_value atom g.terms in
    value_is atom sum
    ∙ ap (λ o. xor o (terms_value atom sum.terms)) (one ∙ not-beq f.one g.one)
    ∙ ap (xor (xor f.one g.one)) (terms atom)
    ∙ xor_across f.one g.one a b
    ∙ ap (λ v. xor v (xor g.one b)) (sym (value_is atom f))
    ∙ ap (xor (form_value atom f)) (sym (value_is atom g))

pub more_one : (atom : ℕ → Bool) (one : Bool) (f sum : FormView) → sum.one ≡ not (mathlib.Core.Bool.beq one f.one) → sum.terms ≡ f.terms
    → form_value atom sum ≡ xor one (form_value atom f)
more_one atom one f sum ones terms =
    value_is atom sum
    ∙ ap (λ o. xor o (terms_value atom sum.terms)) (ones ∙ not-beq one f.one)
    ∙ ap (λ ts. xor (xor one f.one) (terms_value atom ts)) terms
    ∙ sym (xor_left one f.one (terms_value atom f.terms))
    ∙ ap (xor one) (sym (value_is atom f))

-- forms with the same atoms differ by their constants
pub alike_values : (atom : ℕ → Bool) (f g : FormView) → f.terms ≡ g.terms → xor (xor f.one g.one) (form_value atom f) ≡ form_value atom g
alike_values atom f g same =
    ap (xor (xor f.one g.one)) (value_is atom f)
    ∙ xor_across f.one g.one f.one (terms_value atom f.terms)
    ∙ ap (λ b. xor b (xor g.one (terms_value atom f.terms))) (xor_same f.one)
    ∙ xor_none (xor g.one (terms_value atom f.terms))
    ∙ ap (λ ts. xor g.one (terms_value atom ts)) same
    ∙ sym (value_is atom g)

-- ---- one atom

in_own : (k : ℕ) → is_in (2 ^ k) k ≡ true
in_own k = ap (λ b. b == 1) (bit_at-pow_same k)

in_other : (k i : ℕ) → i ≢ k → is_in (2 ^ k) i ≡ false
in_other k i other = ap (λ b. b == 1) (bit_at-pow_other k i other)

no_bit : (n k : ℕ) (f : ℕ → Bool) → n ≤ k → xor_below n (λ b. is_in (2 ^ k) b && f b) ≡ false
no_bit n k f high =
    same_below n (λ b. is_in (2 ^ k) b && f b) (λ b. false) (λ b low. ap (λ t. t && f b) (in_other k b (λ same. omega (arith, high, low, same))))
    ∙ none_below n

one_bit : (n k : ℕ) (f : ℕ → Bool) → k < n → xor_below n (λ b. is_in (2 ^ k) b && f b) ≡ f k
one_bit zero k f low = absurd (omega (arith, low))
one_bit (suc n) k f low =
    below_more (λ k. xor_below (suc n) (λ b. is_in (2 ^ k) b && f b) ≡ f k) n (λ k less.
    ap (λ t. xor (t && f n) (xor_below n (λ b. is_in (2 ^ k) b && f b))) (in_other k n (λ same. omega (arith, less, same)))
    ∙ xor_none (xor_below n (λ b. is_in (2 ^ k) b && f b)) ∙ one_bit n k f less)
    (ap (λ t. xor (t && f n) (xor_below n (λ b. is_in (2 ^ n) b && f b))) (in_own n)
    ∙ ap (xor (f n)) (no_bit n n f (omega arith)) ∙ xor_nothing (f n)) k (omega (arith, low))

word_of_one : (atom : ℕ → Bool) (place k : ℕ) → k < 64 → word_value atom place (2 ^ k) ≡ atom (64 * place + k)
unfolding word_value
word_of_one atom place k low = one_bit 64 k (λ b. atom (64 * place + b)) low

pub atom_is : (atom : ℕ → Bool) (number : ℕ) (t : Term) (f : FormView) → t.place ≡ number / 64 → t.word ≡ 2 ^ (number % 64)
    → f.one ≡ false → f.terms ≡ t ∷ [] → form_value atom f ≡ atom number
atom_is atom number t f place word one terms =
    value_is atom f
    ∙ ap (λ o. xor o (terms_value atom f.terms)) one
    ∙ xor_none (terms_value atom f.terms)
    ∙ ap (terms_value atom) terms
    ∙ one_term atom t
    ∙ ap (λ p. word_value atom p t.word) place
    ∙ ap (word_value atom (number / 64)) word
    ∙ word_of_one atom (number / 64) (number % 64) (omega arith)
    ∙ ap atom (omega arith)

small : (p : ℕ) → p < 18446744073709551616 → 1 * p % 18446744073709551616 ≡ p
small p low = omega (arith, low)

pub shifted : (number : ℕ) → 1 * 2 ^ (number % 64) % 18446744073709551616 ≡ 2 ^ (number % 64)
shifted number = let low : number % 64 < 64 = omega arith in small (2 ^ (number % 64)) (pow-lt low)

-- Each function of some inputs has one set of monomials: it is built by fixing the last input, and no other has its values.
use Rattle.std.proofs.Common.{◌≡◌, ℕ, zero, suc, ◌<◌, Bool, true, false, ◌&&◌, List, [], ◌∷◌, ◌++◌, length, take, slice_index_or, refl, sym, ap, ◌∙◌, subst}
use Rattle.std.proofs.Common.{arith}
use Rattle.std.specs.Bool.{xor}
use Rattle.std.specs.List.{AllByRecursion}
use Rattle.std.proofs.lemmas.List.{get_or_append_left, get_or_push, drop_all}
use Rattle.list_facts.proofs.AllLemmas.{AllByRecursion-weaker}
use Rattle.list_facts.proofs.BitLemmas.{xor_nothing, xor_none, xor_left, xor_same}
use Rattle.list_facts.proofs.CutLemmas.{cut_at, length-take_below}
use Rattle.revs_tape.specs.Measures.{inputs_of}
use Rattle.revs_tape.specs.Monomials.{AreOverInputs, AreMonomialsOf, MonomialsAreDetermined, TapeMonomialsAreDetermined, function_of}
use Rattle.revs_tape.specs.Polynomials.{value_of_monomial, value_of_polynomial, IsPolynomial}
use Rattle.revs_tape.specs.inside.Sums.{exclusive_sum_of}
use Rattle.revs_tape.specs.Tapes.{bit_of}
use Rattle.revs_tape.proofs.PolynomialLemmas.{polynomials_are_unique}
use Rattle.revs_tape.proofs.ProductLemmas.{IsPolynomial-none, product_of, value-product_of, IsPolynomial-product_of, All-product_of}
use Rattle.revs_tape.proofs.SumLemmas.{value-exclusive_sum_of, All-exclusive_sum_of, IsPolynomial-exclusive_sum_of, IsPolynomial-one, IsPolynomial-input}
use Rattle.revs_tape.proofs.SumLemmas.{value-input}

abbrev pub constant : Bool → List (List ℕ)
constant true = [] ∷ []
constant false = []

-- ---- polynomials over some inputs

pub record IsOver (n : ℕ) (p : List (List ℕ)) : Type 0 where
  pub is_polynomial : IsPolynomial p
  pub over_inputs : AreOverInputs n p

pub over-input : (n i : ℕ) → i < n → IsOver n ((i ∷ []) ∷ [])
over-input n i lt = record { is_polynomial = IsPolynomial-input i; over_inputs = ((lt, tt), tt) }

pub over-constant : (n : ℕ) (bit : Bool) → IsOver n (constant bit)
over-constant n true = record { is_polynomial = IsPolynomial-one; over_inputs = (tt, tt) }
over-constant n false = record { is_polynomial = IsPolynomial-none; over_inputs = tt }

pub over-sum : (n : ℕ) (p q : List (List ℕ)) → IsOver n p → IsOver n q → IsOver n (exclusive_sum_of p q)
over-sum n p q a b = record {
  is_polynomial = IsPolynomial-exclusive_sum_of p q a.is_polynomial b.is_polynomial;
  over_inputs = All-exclusive_sum_of (AllByRecursion (λ input. input < n)) p q a.over_inputs b.over_inputs;
}

pub over-product : (n : ℕ) (p q : List (List ℕ)) → IsOver n p → IsOver n q → IsOver n (product_of p q)
over-product n p q a b = record {
  is_polynomial = IsPolynomial-product_of p q a.is_polynomial b.is_polynomial;
  over_inputs = All-product_of (λ input. input < n) p q a.over_inputs b.over_inputs;
}

pub over-more : (n : ℕ) (p : List (List ℕ)) → IsOver n p → IsOver (suc n) p
over-more n p is = record {
  is_polynomial = is.is_polynomial;
  over_inputs = AllByRecursion-weaker (AllByRecursion (λ input. input < n)) (AllByRecursion (λ input. input < suc n))
      (λ m all. AllByRecursion-weaker (λ input. input < n) (λ input. input < suc n) (λ i lt. omega (arith, lt)) m all) p is.over_inputs;
}

pub value-constant : (x : ℕ → Bool) (bit : Bool) → value_of_polynomial x (constant bit) ≡ bit
value-constant x true = xor_nothing true
value-constant x false = refl

-- ---- assignments that agree on the first inputs

-- the first bits of an assignment
abbrev pub firsts : ℕ → (ℕ → Bool) → List Bool
firsts zero x = []
firsts (suc n) x = x zero ∷ firsts n (λ i. x (suc i))

pub length-firsts : (n : ℕ) (x : ℕ → Bool) → length (firsts n x) ≡ n
length-firsts zero x = refl
length-firsts (suc n) x = ap suc (length-firsts n (λ i. x (suc i)))

pub bit-firsts : (n : ℕ) (x : ℕ → Bool) (i : ℕ) → i < n → bit_of (firsts n x) i ≡ x i
bit-firsts zero x i lt = absurd (omega (arith, lt))
bit-firsts (suc n) x zero lt = refl
bit-firsts (suc n) x (suc i) lt = bit-firsts n (λ i. x (suc i)) i (omega (arith, lt))

pub monomial_same : (x y : ℕ → Bool) (n : ℕ) → ((i : ℕ) → i < n → x i ≡ y i) → (m : List ℕ) → AllByRecursion (λ input. input < n) m
    → value_of_monomial x m ≡ value_of_monomial y m
monomial_same x y n same [] over = refl
monomial_same x y n same (i ∷ is) over = rw (same i over.0, monomial_same x y n same is over.1) refl

pub polynomial_same : (x y : ℕ → Bool) (n : ℕ) → ((i : ℕ) → i < n → x i ≡ y i) → (p : List (List ℕ)) → AreOverInputs n p
    → value_of_polynomial x p ≡ value_of_polynomial y p
polynomial_same x y n same [] over = refl
polynomial_same x y n same (m ∷ ms) over = rw (monomial_same x y n same m over.0, polynomial_same x y n same ms over.1) refl

-- ---- built by fixing the last input

-- where the last input is false the first polynomial, where it is true the second
abbrev pub by_last : ℕ → List (List ℕ) → List (List ℕ) → List (List ℕ)
by_last n low high = exclusive_sum_of low (product_of ((n ∷ []) ∷ []) (exclusive_sum_of low high))

when_low : (l h : Bool) → xor l (false && xor l h) ≡ l
when_low l h = xor_nothing l

when_high : (l h : Bool) → xor l (true && xor l h) ≡ h
when_high l h = xor_left l l h ∙ ap (λ (b : Bool). xor b h) (xor_same l) ∙ xor_none h

value-by_last : (n : ℕ) (low high : List (List ℕ)) (x : ℕ → Bool)
    → value_of_polynomial x (by_last n low high) ≡ xor (value_of_polynomial x low) (x n && xor (value_of_polynomial x low) (value_of_polynomial x high))
value-by_last n low high x =
    value-exclusive_sum_of x low (product_of ((n ∷ []) ∷ []) (exclusive_sum_of low high))
    ∙ rw (value-product_of x ((n ∷ []) ∷ []) (exclusive_sum_of low high), value-input x n, value-exclusive_sum_of x low high) refl

over-by_last : (n : ℕ) (low high : List (List ℕ)) → IsOver n low → IsOver n high → IsOver (suc n) (by_last n low high)
over-by_last n low high l h =
    over-sum (suc n) low (product_of ((n ∷ []) ∷ []) (exclusive_sum_of low high)) (over-more n low l)
    (over-product (suc n) ((n ∷ []) ∷ []) (exclusive_sum_of low high) (over-input (suc n) n (omega arith))
    (over-sum (suc n) low high (over-more n low l) (over-more n high h)))

-- the monomials of a function of n inputs
abbrev pub monomials_of : (n : ℕ) → (List Bool → Bool) → List (List ℕ)
monomials_of zero f = constant (f [])
monomials_of (suc n) f = by_last n (monomials_of n (λ v. f (v ++ false ∷ []))) (monomials_of n (λ v. f (v ++ true ∷ [])))

pub over-monomials_of : (n : ℕ) (f : List Bool → Bool) → IsOver n (monomials_of n f)
over-monomials_of zero f = over-constant zero (f [])
over-monomials_of (suc n) f =
    over-by_last n (monomials_of n (λ v. f (v ++ false ∷ []))) (monomials_of n (λ v. f (v ++ true ∷ [])))
    (over-monomials_of n (λ v. f (v ++ false ∷ []))) (over-monomials_of n (λ v. f (v ++ true ∷ [])))

-- one more input leaves the value of a polynomial over those before it
value-more : (n : ℕ) (v : List Bool) (b : Bool) (p : List (List ℕ)) → length v ≡ n → IsOver n p
    → value_of_polynomial (bit_of (v ++ b ∷ [])) p ≡ value_of_polynomial (bit_of v) p
value-more n v b p size over =
    polynomial_same (bit_of (v ++ b ∷ [])) (bit_of v) n (λ i lt. get_or_append_left v (b ∷ []) false i (omega (arith, lt, size))) p over.over_inputs

last_value : (b l h : Bool) (f : Bool → Bool) → l ≡ f false → h ≡ f true → xor l (b && xor l h) ≡ f b
last_value false l h f e g = when_low l h ∙ e
last_value true l h f e g = when_high l h ∙ g

value-push : (n : ℕ) (f : List Bool → Bool) (v : List Bool) (b : Bool) → length v ≡ n
    → value_of_polynomial (bit_of v) (monomials_of n (λ w. f (w ++ false ∷ []))) ≡ f (v ++ false ∷ [])
    → value_of_polynomial (bit_of v) (monomials_of n (λ w. f (w ++ true ∷ []))) ≡ f (v ++ true ∷ [])
    → value_of_polynomial (bit_of (v ++ b ∷ [])) (monomials_of (suc n) f) ≡ f (v ++ b ∷ [])
value-push n f v b size low high =
    let zero_part = monomials_of n (λ w. f (w ++ false ∷ [])) in
    let one_part = monomials_of n (λ w. f (w ++ true ∷ [])) in
    let x : ℕ → Bool = bit_of (v ++ b ∷ []) in
    let here : x n ≡ b = get_or_push v b false n size in
    let l : value_of_polynomial x zero_part ≡ f (v ++ false ∷ []) =
    value-more n v b zero_part size (over-monomials_of n (λ w. f (w ++ false ∷ []))) ∙ low in
    let h : value_of_polynomial x one_part ≡ f (v ++ true ∷ []) =
    value-more n v b one_part size (over-monomials_of n (λ w. f (w ++ true ∷ []))) ∙ high in
    value-by_last n zero_part one_part x
    ∙ ap (λ (c : Bool). xor (value_of_polynomial x zero_part) (c && xor (value_of_polynomial x zero_part) (value_of_polynomial x one_part))) here
    ∙ last_value b (value_of_polynomial x zero_part) (value_of_polynomial x one_part) (λ c. f (v ++ c ∷ [])) l h

last_cut : (n : ℕ) (input : List Bool) → length input ≡ suc n → input ≡ take n input ++ slice_index_or input n false ∷ []
last_cut n input size =
    cut_at input n false (omega (arith, size))
    ∙ ap (λ (rest : List Bool). take n input ++ slice_index_or input n false ∷ rest) (drop_all (suc n) input (omega (arith, size)))

pub value-monomials_of : (n : ℕ) (f : List Bool → Bool) (input : List Bool) → length input ≡ n
    → value_of_polynomial (bit_of input) (monomials_of n f) ≡ f input
value-monomials_of zero f [] size = value-constant (bit_of []) (f [])
value-monomials_of zero f (b ∷ v) size = absurd (omega (arith, size))
value-monomials_of (suc n) f input size =
    let front : List Bool = take n input in
    let short : length front ≡ n = length-take_below input n (omega (arith, size)) in
    subst (λ (v : List Bool). value_of_polynomial (bit_of v) (monomials_of (suc n) f) ≡ f v) (sym (last_cut n input size))
    (value-push n f front (slice_index_or input n false) short
    (value-monomials_of n (λ w. f (w ++ false ∷ [])) front short) (value-monomials_of n (λ w. f (w ++ true ∷ [])) front short))

-- ---- no other has the values

pub value-monomials : (n : ℕ) (f : List Bool → Bool) (p : List (List ℕ)) → AreMonomialsOf n f p → (x : ℕ → Bool) → value_of_polynomial x p ≡ f (firsts n x)
value-monomials n f p are x =
    sym (polynomial_same (bit_of (firsts n x)) x n (bit-firsts n x) p are.over_inputs) ∙ are.values (firsts n x) (length-firsts n x)

one_set : (n : ℕ) (f : List Bool → Bool) (p q : List (List ℕ)) → AreMonomialsOf n f p → AreMonomialsOf n f q → p ≡ q
one_set n f p q a b =
    polynomials_are_unique p q a.is_polynomial b.is_polynomial (λ x. value-monomials n f p a x ∙ sym (value-monomials n f q b x))

-- ---- the laws

are_monomials : (n : ℕ) (f : List Bool → Bool) → AreMonomialsOf n f (monomials_of n f)
are_monomials n f = record {
  is_polynomial = (over-monomials_of n f).is_polynomial;
  over_inputs = (over-monomials_of n f).over_inputs;
  values = value-monomials_of n f;
}

pub monomials_are_determined : MonomialsAreDetermined
monomials_are_determined n f =
    record { monomials = monomials_of n f; are = are_monomials n f; only = λ other there. one_set n f other (monomials_of n f) there (are_monomials n f) }

pub tape_monomials_are_determined : TapeMonomialsAreDetermined
tape_monomials_are_determined t is ref known = monomials_are_determined (inputs_of t) (function_of t ref)

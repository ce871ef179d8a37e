-- The finite search: a test of lists of bits holds of all lists of a length, or fails at one of them.
use Rattle.std.proofs.Common.{◌≡◌, ℕ, zero, suc, ◌≤◌, ◌⊎◌, inl, inr, Bool, true, false, not, List, [], ◌∷◌, ◌++◌, length, map, refl, sym, ap, arith}
use Rattle.list_facts.specs.Bits.{IsSettled, EachTestIsSettled}
use Rattle.list_facts.specs.Lists.{IsAmong}
use Rattle.list_facts.proofs.AmongLemmas.{among_left, among_right, among_append, among_map, among_image}

at_empty : (test : List Bool → Bool) (bits : List Bool) → length bits ≡ 0 → test [] ≡ true → test bits ≡ true
at_empty test [] size is = is
at_empty test (b ∷ bits) size is = absurd (omega (arith, size))

at_both : (n : ℕ) (test : List Bool → Bool) → ((bits : List Bool) → length bits ≡ n → test (true ∷ bits) ≡ true)
    → ((bits : List Bool) → length bits ≡ n → test (false ∷ bits) ≡ true) → (bits : List Bool) → length bits ≡ suc n → test bits ≡ true
at_both n test ones nones [] size = absurd (omega (arith, size))
at_both n test ones nones (true ∷ bits) size = ones bits (omega (arith, size))
at_both n test ones nones (false ∷ bits) size = nones bits (omega (arith, size))

empty_settled : (test : List Bool → Bool) (b : Bool) → test [] ≡ b → IsSettled 0 test
empty_settled test true is = inl (λ bits size. at_empty test bits size is)
empty_settled test false is = inr ([], refl, is)

pub some_or_all : EachTestIsSettled
some_or_all zero test = empty_settled test (test []) refl
some_or_all (suc n) test = elim (some_or_all n (λ bits. test (true ∷ bits))) as (λ _. IsSettled (suc n) test) [
  | inr found ↦ inr (true ∷ found.0, ap suc found.1, found.2)
  | inl ones ↦ elim (some_or_all n (λ bits. test (false ∷ bits))) as (λ _. IsSettled (suc n) test) [
    | inr found ↦ inr (false ∷ found.0, ap suc found.1, found.2)
    | inl nones ↦ inl (λ bits size. at_both n test ones nones bits size)
  ]
]

-- ---- two functions of bits

agree : Bool → Bool → Bool
agree true b = b
agree false b = not b

agree_true : (a b : Bool) → agree a b ≡ true → a ≡ b
unfolding agree
agree_true true true e = refl
agree_true true false e = sym e
agree_true false true e = e
agree_true false false e = refl

agree_false : (a b : Bool) → agree a b ≡ false → ¬ (a ≡ b)
unfolding agree
agree_false true true e = λ same. cc
agree_false true false e = λ same. cc
agree_false false true e = λ same. cc
agree_false false false e = λ same. cc

-- two functions are one on all lists of n bits, or differ at one of them
pub same_or_differ : (n : ℕ) (f g : List Bool → Bool)
    → ((bits : List Bool) → length bits ≡ n → f bits ≡ g bits) ⊎ ((bits : List Bool) × (length bits ≡ n) × (¬ (f bits ≡ g bits)))
same_or_differ n f g =
    elim (some_or_all n (λ bits. agree (f bits) (g bits)))
    as (λ _. ((bits : List Bool) → length bits ≡ n → f bits ≡ g bits) ⊎ ((bits : List Bool) × (length bits ≡ n) × (¬ (f bits ≡ g bits)))) [
      | inl all ↦ inl (λ bits size. agree_true (f bits) (g bits) (all bits size))
      | inr found ↦ inr (found.0, found.1, agree_false (f found.0) (g found.0) found.2)
    ]

-- ---- all lists of few bits

-- the lists of at most n bits
pub bits_within : ℕ → List (List Bool)
bits_within zero = [] ∷ []
bits_within (suc n) = [] ∷ (map (λ v. true ∷ v) (bits_within n) ++ map (λ v. false ∷ v) (bits_within n))

pub within_all : (n : ℕ) (v : List Bool) → length v ≤ n → IsAmong v (bits_within n)
unfolding bits_within
within_all zero [] few = inl refl
within_all zero (b ∷ v) few = absurd (omega (arith, few))
within_all (suc n) [] few = inl refl
within_all (suc n) (true ∷ v) few =
    inr (among_left (true ∷ v) (map (λ w. true ∷ w) (bits_within n)) (map (λ w. false ∷ w) (bits_within n))
    (among_map (λ w. true ∷ w) v (bits_within n) (within_all n v (omega (arith, few)))))
within_all (suc n) (false ∷ v) few =
    inr (among_right (false ∷ v) (map (λ w. true ∷ w) (bits_within n)) (map (λ w. false ∷ w) (bits_within n))
    (among_map (λ w. false ∷ w) v (bits_within n) (within_all n v (omega (arith, few)))))

pub within_few : (n : ℕ) (v : List Bool) → IsAmong v (bits_within n) → length v ≤ n
unfolding bits_within
within_few zero v k = elim k as (λ _. length v ≤ 0) [ inl e ↦ omega (arith, ap length e) | inr none ↦ absurd none ]
within_few (suc n) v k = elim k as (λ _. length v ≤ suc n) [
  | inl e ↦ omega (arith, ap length e)
  | inr later ↦ elim (among_append v (map (λ w. true ∷ w) (bits_within n)) (map (λ w. false ∷ w) (bits_within n)) later) as (λ _. length v ≤ suc n) [
    | inl a ↦ let found = among_image (λ w. true ∷ w) v (bits_within n) a in omega (arith, within_few n found.0 found.1, ap length found.2)
    | inr b ↦ let found = among_image (λ w. false ∷ w) v (bits_within n) b in omega (arith, within_few n found.0 found.1, ap length found.2)
  ]
]

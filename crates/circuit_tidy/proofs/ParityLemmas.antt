-- The parity of the numbers below a bound that pass a test.
use Rattle.std.proofs.Common.{◌≡◌, ◌≢◌, ℕ, zero, suc, ◌<◌, Bool, false, ◌&&◌, eqb, refl, sym, ap, ◌∙◌, inl, inr, arith}
use Rattle.std.specs.Bool.{xor}
use Rattle.std.proofs.lemmas.Bool.{cases_eq, eq-eqb, ne_eqb}
use Rattle.list_facts.proofs.BitLemmas.{xor_none, xor_nothing, xor_same, xor_left, xor_right}

abbrev pub parity : (ℕ → Bool) → ℕ → Bool
parity test zero = false
parity test (suc n) = xor (test n) (parity test n)

pub parity-same : (test other : ℕ → Bool) (n : ℕ) → ((x : ℕ) → x < n → test x ≡ other x) → parity test n ≡ parity other n
parity-same test other zero same = refl
parity-same test other (suc n) same =
    let here : test n ≡ other n = same n (omega arith) in
    let rest : parity test n ≡ parity other n = parity-same test other n (λ x lt. same x (omega (arith, lt))) in
    cc

pub parity-none : (test : ℕ → Bool) (n : ℕ) → ((x : ℕ) → x < n → test x ≡ false) → parity test n ≡ false
parity-none test zero none = refl
parity-none test (suc n) none =
    ap (λ b. xor b (parity test n)) (none n (omega arith)) ∙ xor_none (parity test n) ∙ parity-none test n (λ x lt. none x (omega (arith, lt)))

regroup : (a b c d : Bool) → xor (xor a b) (xor c d) ≡ xor (xor a c) (xor b d)
regroup a b c d =
    sym (xor_left a b (xor c d)) ∙ ap (xor a) (xor_right b c d) ∙ xor_left a c (xor b d)

pub parity-xor : (test other : ℕ → Bool) (n : ℕ) → parity (λ x. xor (test x) (other x)) n ≡ xor (parity test n) (parity other n)
parity-xor test other zero = sym (xor_same false)
parity-xor test other (suc n) =
    ap (xor (xor (test n) (other n))) (parity-xor test other n) ∙ regroup (test n) (other n) (parity test n) (parity other n)

-- of one number alone
pub parity-one : (test : ℕ → Bool) (i n : ℕ) → i < n → parity (λ x. eqb i x && test x) n ≡ test i
parity-one test i zero lt = absurd (omega (arith, lt))
parity-one test i (suc n) lt = elim (cases_eq i n) [
  | inl e ↦
      ap (λ b. xor (b && test n) (parity (λ x. eqb i x && test x) n)) (eq-eqb i n e)
      ∙ ap (xor (test n)) (parity-none (λ x. eqb i x && test x) n
      (λ x below. ap (λ b. b && test x) (ne_eqb i x (λ same. absurd (omega (arith, e, same, below))))))
      ∙ xor_nothing (test n) ∙ ap test (sym e)
  | inr ne ↦
      ap (λ b. xor (b && test n) (parity (λ x. eqb i x && test x) n)) (ne_eqb i n ne)
      ∙ xor_none (parity (λ x. eqb i x && test x) n)
      ∙ parity-one test i n (let other : i ≢ n = ne in omega arith)
]

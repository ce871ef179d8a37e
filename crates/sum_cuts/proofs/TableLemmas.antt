-- Truth tables: of variables, of sums and of conjunctions.
use Rattle.std.proofs.Common.{◌≡◌, ◌≢◌, ℕ, zero, suc, ◌+◌, ◌-◌, ◌*◌, ◌/◌, ◌%◌, ◌<◌, ◌≤◌, ◌==◌, bit_and, bit_xor, inl, inr, Bool, true, false}
use Rattle.std.proofs.Common.{◌&&◌, List, [], ◌∷◌, cond, get_or, length, set, replicate, refl, sym, ap, subst, ◌∙◌, arith}
use Rattle.std.specs.Bool.{xor}
use Rattle.std.specs.Int.{bit_at}
use Rattle.std.proofs.lemmas.Bool.{cases_lt, eqb-true, true≢false}
use Rattle.std.proofs.lemmas.List.{get_or-replicate, get_or-set_other, get_or-set_same}
use Rattle.std.proofs.lemmas.Nat.Bits.{bit_at-suc, bit_at_cat_high, bit_at_cat_low, bit_at_lowest, bit_at_ones}
use Rattle.list_facts.specs.Bits.{bit_of}
use Rattle.linear_forms.specs.Pairs.{is_in}
use Rattle.linear_forms.proofs.PairLemmas.{in_both, in_none, in_one}
use Rattle.sum_cuts.specs.Tables.{row_of, table_bit}

-- ---- the words of variables

abbrev each_below : ℕ → (ℕ → Bool) → Bool
each_below zero test = true
each_below (suc n) test = test n && each_below n test

both : (a b : Bool) → (a && b) ≡ true → (a ≡ true) × (b ≡ true)
both true b e = (refl, e)
both false b e = absurd (true≢false (sym e))

below_each : (n : ℕ) (test : ℕ → Bool) → each_below n test ≡ true → (i : ℕ) → i < n → test i ≡ true
below_each zero test e i low = absurd (omega (arith, low))
below_each (suc n) test e i low =
    let parts = both (test n) (each_below n test) e in
    elim (cases_lt i n) as (λ _. test i ≡ true) [
      | inl less ↦ below_each n test parts.1 i less
      | inr more ↦ let same : n ≡ i = omega (arith, low, more) in subst (λ (k : ℕ). test k ≡ true) same parts.0
    ]

period : (word place : ℕ) → each_below 64 (λ b. bit_at word b == bit_at b place) ≡ true → (low : ℕ) → low < 64 → is_in word low ≡ is_in low place
period word place e low l =
    ap (λ n. n == 1) (eqb-true (bit_at word low) (bit_at low place) (below_each 64 (λ b. bit_at word b == bit_at b place) e low l))

abbrev pub periods : List ℕ
periods =
    0xAAAA_AAAA_AAAA_AAAA ∷ 0xCCCC_CCCC_CCCC_CCCC ∷ 0xF0F0_F0F0_F0F0_F0F0 ∷ 0xFF00_FF00_FF00_FF00 ∷ 0xFFFF_0000_FFFF_0000 ∷ 0xFFFF_FFFF_0000_0000 ∷ []

period_at : (place low : ℕ) → place < 6 → low < 64 → is_in (get_or periods place 0) low ≡ is_in low place
period_at zero low h l = period 0xAAAA_AAAA_AAAA_AAAA 0 refl low l
period_at (suc zero) low h l = period 0xCCCC_CCCC_CCCC_CCCC 1 refl low l
period_at (suc (suc zero)) low h l = period 0xF0F0_F0F0_F0F0_F0F0 2 refl low l
period_at (suc (suc (suc zero))) low h l = period 0xFF00_FF00_FF00_FF00 3 refl low l
period_at (suc (suc (suc (suc zero)))) low h l = period 0xFFFF_0000_FFFF_0000 4 refl low l
period_at (suc (suc (suc (suc (suc zero))))) low h l = period 0xFFFF_FFFF_0000_0000 5 refl low l
period_at (suc (suc (suc (suc (suc (suc place)))))) low h l = absurd (omega (arith, h))

pub early_part : (place i low : ℕ) → place < 6 → low < 64 → is_in (get_or periods place 0) low ≡ is_in (i * 64 + low) place
early_part place i low h l = period_at place low h l ∙ ap (λ n. n == 1) (sym (bit_at_cat_low i 6 low place h))

pub late_part : (place i low : ℕ) → 6 ≤ place → low < 64 → is_in (i * 64 + low) place ≡ is_in i (place - 6)
late_part place i low h l = ap (λ n. n == 1) (bit_at_cat_high i 6 low place l h)

pub all_ones : (low : ℕ) → low < 64 → is_in 18446744073709551615 low ≡ true
all_ones low l = ap (λ n. n == 1) (bit_at_ones 64 low l)

pub late_one : (place i low : ℕ) → 6 ≤ place → low < 64 → is_in i (place - 6) ≡ true → is_in 18446744073709551615 low ≡ is_in (i * 64 + low) place
late_one place i low h l there = all_ones low l ∙ sym (late_part place i low h l ∙ there)

pub late_none : (place i low : ℕ) → 6 ≤ place → low < 64 → is_in i (place - 6) ≡ false → is_in 0 low ≡ is_in (i * 64 + low) place
late_none place i low h l there = in_none low ∙ sym (late_part place i low h l ∙ there)

-- ---- tables, word by word

pub each_more : (P : ℕ → ℕ → Type 0) (xs : List ℕ) (i v : ℕ) → i < length xs → ((k : ℕ) → k < i → P k (get_or xs k 0)) → P i v
    → (k : ℕ) → k < i + 1 → P k (get_or (set xs i v) k 0)
each_more P xs i v inside all here k low =
    elim (cases_lt k i) as (λ _. P k (get_or (set xs i v) k 0)) [
      | inl less ↦
          let other : k ≢ i = λ same. omega (arith, less, same) in
          subst (P k) (sym (get_or-set_other xs i k v 0 other)) (all k less)
      | inr more ↦
          let same : i ≡ k = omega (arith, low, more) in
          subst (λ (j : ℕ). P j (get_or (set xs i v) j 0)) same (subst (P i) (sym (get_or-set_same xs i v 0 inside)) here)
    ]

abbrev pub IsVariableWord : ℕ → ℕ → ℕ → Type 0
IsVariableWord place i word = (low : ℕ) → low < 64 → is_in word low ≡ is_in (i * 64 + low) place

pub variable_bit : (words : List ℕ) (place : ℕ) → ((k : ℕ) → k < 64 → IsVariableWord place k (get_or words k 0))
    → (row : ℕ) → row < 4096 → table_bit words row ≡ is_in row place
unfolding table_bit
variable_bit words place each row low =
    let whole : row / 64 * 64 + row % 64 ≡ row = omega arith in
    let high : row / 64 < 64 = omega (arith, low) in
    let rest : row % 64 < 64 = omega arith in
    each (row / 64) high (row % 64) rest ∙ ap (λ n. is_in n place) whole

pub sum_bit : (a b c : List ℕ) → ((k : ℕ) → k < 64 → get_or c k 0 ≡ bit_xor (get_or a k 0) (get_or b k 0))
    → (row : ℕ) → row < 4096 → table_bit c row ≡ xor (table_bit a row) (table_bit b row)
unfolding table_bit
sum_bit a b c each row low =
    let i : ℕ = row / 64 in
    ap (λ w. is_in w (row % 64)) (each i (omega (arith, low))) ∙ in_one (get_or a i 0) (get_or b i 0) (row % 64)

pub product_bit : (a b c : List ℕ) → ((k : ℕ) → k < 64 → get_or c k 0 ≡ bit_and (get_or a k 0) (get_or b k 0))
    → (row : ℕ) → row < 4096 → table_bit c row ≡ (table_bit a row && table_bit b row)
unfolding table_bit
product_bit a b c each row low =
    let i : ℕ = row / 64 in
    ap (λ w. is_in w (row % 64)) (each i (omega (arith, low))) ∙ in_both (get_or a i 0) (get_or b i 0) (row % 64)

pub none_bit : (row : ℕ) → row < 4096 → table_bit (replicate 64 0) row ≡ false
unfolding table_bit
none_bit row low = ap (λ w. is_in w (row % 64)) (get_or-replicate 64 (row / 64) 0 0 (omega (arith, low))) ∙ in_none (row % 64)

pub one_bit : (row : ℕ) → row < 4096 → table_bit (replicate 64 18446744073709551615) row ≡ true
unfolding table_bit
one_bit row low =
    ap (λ w. is_in w (row % 64)) (get_or-replicate 64 (row / 64) 18446744073709551615 0 (omega (arith, low))) ∙ all_ones (row % 64) (omega arith)

-- ---- rows

abbrev rows : ℕ → ℕ
rows zero = 1
rows (suc n) = 2 * rows n

some_row : (n : ℕ) → 0 < rows n
some_row zero = omega arith
some_row (suc n) = omega (arith, some_row n)

row_low : (bits : List Bool) (n : ℕ) → length bits ≤ n → row_of bits < rows n
row_low [] n few = some_row n
row_low (b ∷ bs) zero few = absurd (omega (arith, few))
row_low (true ∷ bs) (suc n) few = omega (arith, row_low bs n (omega (arith, few)))
row_low (false ∷ bs) (suc n) few = omega (arith, row_low bs n (omega (arith, few)))

pub row_inside : (bits : List Bool) → length bits ≤ 12 → row_of bits < 4096
row_inside bits few = row_low bits 12 few

bit_first : (b : Bool) (n : ℕ) → is_in (cond b 1 0 + 2 * n) 0 ≡ b
bit_first true n = let odd : (1 + 2 * n) % 2 ≡ 1 = omega arith in ap (λ m. m == 1) (bit_at_lowest (1 + 2 * n) ∙ odd)
bit_first false n = let even : (0 + 2 * n) % 2 ≡ 0 = omega arith in ap (λ m. m == 1) (bit_at_lowest (0 + 2 * n) ∙ even)

half : (b : Bool) (n : ℕ) → (cond b 1 0 + 2 * n) / 2 ≡ n
half true n = omega arith
half false n = omega arith

pub row_bit : (bits : List Bool) (k : ℕ) → is_in (row_of bits) k ≡ bit_of bits k
row_bit [] k = in_none k
row_bit (b ∷ bs) zero = bit_first b (row_of bs)
row_bit (b ∷ bs) (suc k) =
    ap (λ m. m == 1) (bit_at-suc (cond b 1 0 + 2 * row_of bs) k ∙ ap (λ m. bit_at m k) (half b (row_of bs))) ∙ row_bit bs k

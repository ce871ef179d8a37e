-- Rows and turns: each list of values is that of the variables in some row of some turn.
use Rattle.std.proofs.Common.{◌≡◌, ◌≢◌, ℕ, zero, suc, ◌+◌, ◌-◌, ◌*◌, ◌/◌, ◌%◌, ◌^◌, ◌<◌, ◌≤◌, ◌==◌, Bool, true, false, ◌&&◌, cond, List, [], ◌∷◌, ◌++◌, length, take, drop, nat_lt}
use Rattle.std.proofs.Common.{get_or, slice_get, Some, refl, sym, ap, ap₂, ◌∙◌, subst, arith, inl, inr, ◌⊎◌}
use Rattle.std.specs.Bool.{xor}
use Rattle.std.specs.Global.{Vec}
use Rattle.std.proofs.lemmas.Bool.{and_parts, cases_Bool, eqb-false, eqb-true, ltb-false, ltb-true}
use Rattle.std.proofs.lemmas.List.{get_or-drop, get_or-map, get_or-take, length-drop, length-map, length-take}
use Rattle.std.proofs.lemmas.Nat.Bits.{bit_at-zero}
use Rattle.std.proofs.lemmas.Option.{get_or_from_slice_get, slice_get_within}
use Rattle.std.proofs.Math.Nat.{div-div-eq-div-mul, pow-le-pow_right, pow-suc}
use Rattle.list_facts.specs.Bits.{bit_of}
use Rattle.list_facts.proofs.AllLemmas.{AllByRecursion-push}
use Rattle.list_facts.proofs.BitLemmas.{xor_same}
use Rattle.list_facts.proofs.TableLemmas.{of_one_bit, same_table_1}
use Rattle.circuit_sim.specs.Planes.{plane_bit}
use Rattle.dependency_graph.specs.declared.node.Base.{Base}
use Rattle.bit_sums.specs.Sums.{SumView, xor_by}
use Rattle.wide_sums.specs.declared.form.Form.{Form}
use Rattle.wide_sums.specs.Wide.{Vanishes}
use Rattle.wide_sums.specs.inside.Forms.{IsOnes, VanishesOver, form_value}
use Rattle.wide_sums.specs.inside.Rows.{AreAxes, HasValues, IsVariable, VanishesIn, values_of, variable_bit}

-- ---- tables

abbrev all_below : ℕ → (ℕ → Bool) → Bool
all_below zero test = true
all_below (suc n) test = test n && all_below n test

last_or_before : (k n : ℕ) → k < suc n → (k ≡ n) ⊎ (k < n)
last_or_before k n low = elim (cases_Bool (k == n)) as (λ _. (k ≡ n) ⊎ (k < n)) [
  | inl same ↦ inl (eqb-true k n same)
  | inr other ↦ let apart : k ≢ n = eqb-false k n other in inr (omega (arith, low, apart))
]

at_each : (n : ℕ) (test : ℕ → Bool) → all_below n test ≡ true → (k : ℕ) → k < n → test k ≡ true
at_each zero test all k low = absurd (omega (arith, low))
at_each (suc n) test all k low = elim (last_or_before k n low) as (λ _. test k ≡ true) [
  | inl last ↦ ap test last ∙ (and_parts (test n) (all_below n test) all).0
  | inr before ↦ at_each n test (and_parts (test n) (all_below n test) all).1 k before
]

-- ---- variables

-- whether a word has in a row the bit at a place of the row's number
abbrev has_bit : ℕ → ℕ → ℕ → Bool
has_bit place word row = same_table_1 (λ _. plane_bit row word) (λ _. plane_bit place row)

-- a word that has the bit at a place of each row's number
in_all_rows : (place word : ℕ) → all_below 64 (has_bit place word) ≡ true → (row : ℕ) → row < 64 → plane_bit row word ≡ plane_bit place row
in_all_rows place word all row low =
    of_one_bit (λ _. plane_bit row word) (λ _. plane_bit place row) (at_each 64 (has_bit place word) all row low) true

abbrev pub variables : List ℕ
variables = 0xaaaa_aaaa_aaaa_aaaa ∷ 0xcccc_cccc_cccc_cccc ∷ 0xf0f0_f0f0_f0f0_f0f0 ∷ 0xff00_ff00_ff00_ff00 ∷ 0xffff_0000_ffff_0000 ∷ 0xffff_ffff_0000_0000 ∷ []

pub variable_low : (place turn word : ℕ) → place < 6 → word ≡ get_or variables place 0 → IsVariable place turn word
variable_low zero turn word low e = record { each = λ row few. ap (plane_bit row) e ∙ in_all_rows 0 0xaaaa_aaaa_aaaa_aaaa refl row few }
variable_low (suc zero) turn word low e = record { each = λ row few. ap (plane_bit row) e ∙ in_all_rows 1 0xcccc_cccc_cccc_cccc refl row few }
variable_low (suc (suc zero)) turn word low e = record { each = λ row few. ap (plane_bit row) e ∙ in_all_rows 2 0xf0f0_f0f0_f0f0_f0f0 refl row few }
variable_low (suc (suc (suc zero))) turn word low e = record { each = λ row few. ap (plane_bit row) e ∙ in_all_rows 3 0xff00_ff00_ff00_ff00 refl row few }
variable_low (suc (suc (suc (suc zero)))) turn word low e = record { each = λ row few. ap (plane_bit row) e ∙ in_all_rows 4 0xffff_0000_ffff_0000 refl row few }
variable_low (suc (suc (suc (suc (suc zero))))) turn word low e = record {
  each = λ row few. ap
      (plane_bit row) e ∙ in_all_rows 5 0xffff_ffff_0000_0000 refl row few;
}
variable_low (suc (suc (suc (suc (suc (suc k)))))) turn word low e = absurd (omega (arith, low))

not_below : (place : ℕ) → 6 ≤ place → nat_lt place 6 ≡ false
not_below place high = elim (cases_Bool (nat_lt place 6)) as (λ _. nat_lt place 6 ≡ false) [
  | inl low ↦ absurd (omega (arith, high, ltb-true place 6 low))
  | inr high ↦ high
]

pub variable_high : (place turn word : ℕ) (bit : Bool) → 6 ≤ place → bit ≡ plane_bit (place - 6) turn → IsOnes bit word → IsVariable place turn word
variable_high place turn word bit high is ones =
    let above : nat_lt place 6 ≡ false = not_below place high in
    record { each = λ row low. ones.each row low ∙ is ∙ sym (ap (λ t. cond t (plane_bit place row) (plane_bit (place - 6) turn)) above) }

-- ---- numbers by their bits

pub number_of : List Bool → ℕ
number_of [] = 0
number_of (b ∷ bs) = cond b 1 0 + 2 * number_of bs

small : (b : Bool) → cond b 1 0 < 2
small true = omega arith
small false = omega arith

low_bit : (b : Bool) (n : ℕ) → ((cond b 1 0 + 2 * n) / 1 % 2 == 1) ≡ b
low_bit true n = let e : (1 + 2 * n) / 1 % 2 ≡ 1 = omega arith in ap (λ (x : ℕ). x == 1) e
low_bit false n = let e : (0 + 2 * n) / 1 % 2 ≡ 0 = omega arith in ap (λ (x : ℕ). x == 1) e

half : (c n : ℕ) → c < 2 → (c + 2 * n) / 2 ≡ n
half c n low = omega (arith, low)

power_next : (k : ℕ) → 2 ^ suc k ≡ 2 * 2 ^ k
power_next k = pow-suc 2 k ∙ omega arith

plane_bit-number : (bits : List Bool) (k : ℕ) → plane_bit k (number_of bits) ≡ bit_of bits k
unfolding number_of
plane_bit-number [] k = ap (λ (x : ℕ). x == 1) (bit_at-zero k)
plane_bit-number (b ∷ bs) zero = low_bit b (number_of bs)
plane_bit-number (b ∷ bs) (suc k) =
    let n = cond b 1 0 + 2 * number_of bs in
    let e : n / 2 ^ suc k ≡ number_of bs / 2 ^ k =
    ap (λ m. n / m) (power_next k) ∙ sym (div-div-eq-div-mul n 2 (2 ^ k)) ∙ ap (λ m. m / 2 ^ k) (half (cond b 1 0) (number_of bs) (small b)) in
    ap (λ (x : ℕ). x % 2 == 1) e ∙ plane_bit-number bs k

number_bound : (bits : List Bool) → number_of bits + 1 ≤ 2 ^ length bits
unfolding number_of
number_bound [] = omega arith
number_bound (b ∷ bs) = let e = power_next (length bs) in omega (arith, number_bound bs, small b, e)

-- ---- rows

pub record HasRow (values : List Bool) : Type 0 where
  pub row : ℕ
  pub turn : ℕ
  pub low : turn < 2 ^ (length values - 6)
  pub fits : HasValues values row turn

at_place : (values : List Bool) (place row turn : ℕ) → row ≡ number_of (take 6 values) → turn ≡ number_of (drop 6 values)
    → variable_bit place row turn ≡ bit_of values place
at_place values place row turn e f = elim (cases_Bool (nat_lt place 6)) as (λ _. variable_bit place row turn ≡ bit_of values place) [
  | inl low ↦
      ap (λ t. cond t (plane_bit place row) (plane_bit (place - 6) turn)) low
      ∙ ap (plane_bit place) e
      ∙ plane_bit-number (take 6 values) place
      ∙ get_or-take 6 values place false (ltb-true place 6 low)
  | inr high ↦
      ap (λ t. cond t (plane_bit place row) (plane_bit (place - 6) turn)) high
      ∙ ap (plane_bit (place - 6)) f
      ∙ plane_bit-number (drop 6 values) (place - 6)
      ∙ get_or-drop 6 values (place - 6) false
      ∙ ap (bit_of values) (omega (arith, ltb-false place 6 high))
]

few_rows : (values : List Bool) → number_of (take 6 values) < 64
few_rows values =
    let l : length (take 6 values) ≤ 6 = omega (arith, length-take 6 values) in
    let two : 0 < 2 = omega arith in
    let most : 2 ^ length (take 6 values) ≤ 2 ^ 6 = pow-le-pow_right two l in
    omega (arith, number_bound (take 6 values), most)

few_turns : (values : List Bool) → number_of (drop 6 values) < 2 ^ (length values - 6)
few_turns values =
    let l : length (drop 6 values) ≡ length values - 6 = length-drop 6 values in
    subst (λ k. number_of (drop 6 values) < 2 ^ k) l (omega (arith, number_bound (drop 6 values)))

pub has_row : (values : List Bool) → HasRow values
has_row values = record {
  row = number_of (take 6 values);
  turn = number_of (drop 6 values);
  low = few_turns values;
  fits = record { few = few_rows values; each = λ place low. at_place values place _ _ refl refl };
}

-- ---- axes

pub axes_begun : (sums : List (Vec Base)) (turn : ℕ) → AreAxes sums turn []
axes_begun sums turn = record { zero = λ bit row has. tt }

pub axes_next : (sums : List (Vec Base)) (turn : ℕ) (axes : List Form) (place : ℕ) (sum : Vec Base) (axis : Form) → slice_get sums place ≡ Some sum
    → axis.bits.items ≡ sum.items → IsVariable place turn axis.word → AreAxes sums turn axes → AreAxes sums turn (axes ++ axis ∷ [])
axes_next sums turn axes place sum axis e same is before = record {
  zero = λ bit row has.
      let value = λ (s : Vec Base). xor_by bit s.items in
      let inside : place < length sums = slice_get_within sums place sum e in
      let here : bit_of (values_of bit sums) place ≡ xor_by bit sum.items =
      get_or-map value sums place sum false inside ∙ ap value (get_or_from_slice_get sums place sum sum e) in
      let many : length (values_of bit sums) ≡ length sums = length-map sums value in
      let word : plane_bit row axis.word ≡ xor_by bit sum.items = is.each row has.few ∙ has.each place (omega (arith, inside, many)) ∙ here in
      AllByRecursion-push (λ (f : Form). form_value bit row f ≡ false) axes axis (before.zero bit row has)
      (ap₂ xor (ap (xor_by bit) same) word ∙ xor_same (xor_by bit sum.items));
}

pub vanishes_in : (definitions : List SumView) (sums : List (Vec Base)) (turn : ℕ) (axes : List Form) (s : SumView) → AreAxes sums turn axes
    → VanishesOver definitions axes s → VanishesIn definitions sums turn s
vanishes_in definitions sums turn axes s are over = record {
  values = λ bit row holds has. over.values bit row has.few holds (are.zero bit row has);
}

pub vanishes_always : (definitions : List SumView) (sums : List (Vec Base)) (s : SumView) (turns : ℕ) → turns ≡ 2 ^ (length sums - 6)
    → ((turn : ℕ) → turn < turns → VanishesIn definitions sums turn s) → Vanishes definitions s
vanishes_always definitions sums s turns many each = record {
  values = λ bit holds.
      let values = values_of bit sums in
      let has = has_row values in
      let same : length values ≡ length sums = length-map sums (λ (sum : Vec Base). xor_by bit sum.items) in
      let low : has.turn < turns = rw (many, ← same) has.low in
      (each has.turn low).values bit has.row holds has.fits;
}

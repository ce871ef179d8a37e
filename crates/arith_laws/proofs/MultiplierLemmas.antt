-- The text of a multiplier multiplies.
use Rattle.std.proofs.Common.{◌≡◌, ℕ, zero, suc, ◌+◌, ◌*◌, ◌-◌, ◌^◌, ◌≤◌, ◌⊎◌, inl, inr, Bool, true, false}
use Rattle.std.proofs.Common.{leb, List, [], ◌∷◌, length, take, refl, ap, subst, ◌∙◌, arith}
use Rattle.std.specs.Prelude.{codes}
use Rattle.std.proofs.Math.Nat.{pow-suc}
use Rattle.std.proofs.lemmas.Bool.{leb-true, leb-false, cases_Bool}
use Rattle.std.proofs.lemmas.List.{length-append}
use Rattle.revc_base.specs.declared.place.Place.{Place}
use Rattle.text_places.specs.Places.{start}
use Rattle.revs_grammar.specs.Forms.{BodyTree, name_of}
use Rattle.revs_grammar.specs.Productions.{in_front}
use Rattle.revs_terms.specs.declared.term.Name.{Name}
use Rattle.revs_terms.specs.declared.program.Param.{Param}
use Rattle.revs_terms.specs.Runs.{IsInput}
use Rattle.revs_terms.specs.Trees as t
use Rattle.built_texts.specs.Meanings.{Scope, of_bits, no_names, named, no_operands, operand, RunsBody, let_is}
use Rattle.built_texts.specs.Programs.{IsBodyRun, IsBuilt}
use Rattle.built_texts.proofs.PlaceLemmas.{lettered, token_place}
use Rattle.built_texts.proofs.RunLemmas.{run_constant, run_function, run_reg, run_block, run_within}
use Rattle.arith_templates.specs.Numbers.{number, digits_of}
use Rattle.arith_templates.specs.Places.{products}
use Rattle.arith_templates.specs.Texts as texts
use Rattle.arith_templates.specs.declared.kind.Kind.TheVariants.{Mul}
use Rattle.arith_templates.proofs.NumberLemmas.{number-append, digits_are_binary}
use Rattle.arith_templates.proofs.PlaceLemmas.{products_multiply}
use Rattle.arith_laws.specs.Computes.{Computes}
use Rattle.arith_laws.proofs.NameLemmas.{nearest}
use Rattle.arith_laws.proofs.ProgramLemmas.{text_computes, is_built, one_input, one_number, is_param}
use Rattle.arith_laws.proofs.TwoNumberReadingLemmas.{carry_body, taken}
use Rattle.arith_laws.proofs.AdderLemmas.{carry_works}
use Rattle.arith_laws.specs.Computes.{MultipliersMultiply}
use Rattle.arith_laws.proofs.ProductPieces.{pieces}
use Rattle.arith_laws.proofs.PlusReadingLemmas.{plus_names, plus_body}
use Rattle.arith_laws.proofs.PlusRunLemmas.{carry_meaning, plus_body_run, plus_meaning}
use Rattle.arith_laws.proofs.DigitReadingLemmas.{at_function, at_plus, at_zero, at_zeros, at_last_zero, at_digits, at_end, zero_item}
use Rattle.arith_laws.proofs.DigitReadingLemmas.{in_digits, last_body, inner_body, params, whole_body, sentence}
use Rattle.arith_laws.proofs.DigitRunLemmas.{falses, number_of_falses, zeros_run, digits_run, Stage}
use Rattle.arith_laws.proofs.MultiplierTextLemmas.{text_is, all_fit, all_good, is_short}

-- ---- how many digits there are

power_grows : (j : ℕ) → 16384 ≤ 2 ^ (14 + j)
power_grows zero = omega arith
power_grows (suc j) =
    let more = power_grows j in
    let is : 14 + suc j ≡ suc (14 + j) = omega arith in
    let power : 2 ^ (14 + suc j) ≡ 2 ^ (14 + j) * 2 = ap (λ k. 2 ^ k) is ∙ pow-suc 2 (14 + j) in
    omega (arith, more, power)

few_power : (k : ℕ) → 2 ^ k ≤ 9999 → k ≤ 13
few_power k low = elim (le-or-lt k) [
  | inl few ↦ few
  | inr many ↦ absurd (
      let is : 14 + (k - 14) ≡ k = omega arith in let big = power_grows (k - 14) in omega (arith, big, ap (λ n. 2 ^ n) is))
]
  where
    le-or-lt : (k : ℕ) → (k ≤ 13) ⊎ (14 ≤ k)
    le-or-lt k = elim (cases_Bool (leb k 13)) [
      | inl is ↦ inl (leb-true k 13 is)
      | inr is ↦ inr (let low = leb-false k 13 is in omega arith)
    ]

few_digits : (by : ℕ) → 1 ≤ by → by ≤ 9999 → length (digits_of by) ≤ 14
few_digits by some few =
    let is = digits_are_binary by some in
    let value = is.value in
    let split : number (digits_of by) ≡ number is.before + 2 ^ length is.before * number (true ∷ []) =
    ap number is.last ∙ number-append is.before (true ∷ []) in
    let size : length (digits_of by) ≡ length is.before + 1 = ap length is.last ∙ length-append is.before (true ∷ []) in
    let low : 2 ^ length is.before ≤ 9999 = omega arith in
    let bound = few_power (length is.before) low in
    omega arith

-- ---- the body

module _ (m : ℕ) (ds : List Bool) (p : ℕ → Place) (few : m ≤ 199) (low : length ds ≤ 14) where
  abbrev scope_in : List Bool → Scope
  scope_in us = named (codes "a") (of_bits us) no_names

  abbrev g : ℕ → Place
  g = at_function m ds p

  abbrev q : ℕ → Place
  q = at_plus m ds p

  abbrev with_carry : List Bool → Scope
  with_carry us = named (codes "carry") (carry_meaning g (scope_in us)) (scope_in us)

  abbrev with_plus : List Bool → Scope
  with_plus us = named (codes "plus") (plus_meaning m q g few (scope_in us) (with_carry us) refl) (with_carry us)

  abbrev zeros : List Bool
  zeros = falses m (false ∷ [])

  abbrev all_units : ℕ
  all_units = 1 + 0 + (1 + 0 + (2000 + (10000 * length ds + 1)))

  body_runs : (us : List Bool) → length us ≡ suc m
      → RunsBody 399 (scope_in us) (inner_body m ds p).items (inner_body m ds p).last (of_bits (products zeros 0 us ds)) all_units
  body_runs us size =
      let own = scope_in us in
      let one = with_carry us in
      let two = with_plus us in
      let name_0 = lettered 114 0 in
      let three = named name_0 (of_bits zeros) two in
      let carry = carry_works.body_works 395 g false false false own in
      let added = plus_body_run m q g few own one refl 392 us us size size in
      let zero_size = (number_of_falses m).1 in
      let now : Stage m q g few own one refl us size 0 zeros three = record {
        a_is = refl;
        plus_is = refl;
        r_is = nearest name_0 (of_bits zeros) two;
        long = omega arith;
      } in
      let first = zeros_run 397 m (at_zeros m ds p) (t.bool false (at_last_zero m ds p 0)) [] (false ∷ []) 2 two
      (operand (run_constant false (at_last_zero m ds p 0)) no_operands) in
      let zero_run = run_within {k = 2000 - length zeros} (run_reg (at_zero m ds p 3) first (omega arith)) (omega arith) in
      let rest = digits_run m q g few own one refl us size 0 (length ds) ds (at_digits m ds p) (at_end m ds p 0) zeros three now (omega arith) (omega arith) in
      let same : 2000 - length zeros + length zeros + (10000 * length ds + 1) ≡ 2000 + (10000 * length ds + 1) = omega arith in
      let_is {name = name_of (codes "carry") (g 1)} (run_function (taken g) (carry_body g) carry.tree (g 2) carry.scoped_as)
      (let_is {name = name_of (codes "plus") (q 1)} (run_function (plus_names q) (plus_body m q) added.tree (q 2) added.scoped_as)
      (subst (λ (n : ℕ). RunsBody 399 two (behind_plus.items) (behind_plus.last) (of_bits (products zeros 0 us ds)) n) same
      (let_is {name = name_of name_0 (at_zero m ds p 1)} zero_run rest)))
    where
      behind_plus : BodyTree
      behind_plus = in_front (zero_item m ds p) (in_digits (suc m) 0 ds (at_digits m ds p) (last_body m ds p))

-- ---- the text

module _ (m by : ℕ) (few : m ≤ 199) (some : 1 ≤ by) (low : by ≤ 9999) where
  abbrev ds : List Bool
  ds = digits_of by

  abbrev places_here : ℕ → Place
  places_here = token_place start (pieces m ds)

  abbrev params_here : List Param
  params_here = params m ds places_here

  abbrev name : Name
  name = name_of (codes "a") (places_here 2)

  abbrev product_of : List Bool → List Bool
  product_of input = products (falses m (false ∷ [])) 0 (take (suc m) input) ds

  built : IsBuilt (pieces m ds) params_here (whole_body m ds places_here)
  built =
      let count = few_digits by some low in
      is_built (all_good m ds (omega arith) (omega arith)) (all_fit m ds) (is_short m ds few (omega arith)) (sentence m ds places_here)
      (is_param (suc m) name (omega arith) (omega arith)) refl

  -- the number and the length of the product
  product_is : (input : List Bool) → IsInput params_here input
      → (number (product_of input) ≡ by * number (take (suc m) input)) × (length (product_of input) ≡ suc m + length ds)
  product_is input is =
      let us = take (suc m) input in
      let size = (one_number (suc m) name input is).size in
      let zero_is = number_of_falses m in
      let h = products_multiply (falses m (false ∷ [])) 0 us ds (omega (arith, zero_is.1, size)) in
      (h.0 ∙ value (number (falses m (false ∷ []))) (number ds) (number us) zero_is.0 (digits_are_binary by some).value, omega (arith, h.1, size))
    where
      value : (z d a : ℕ) → z ≡ 0 → d ≡ by → z + 1 * (d * a) ≡ by * a
      value z d a none is = let e : d * a ≡ by * a = ap (λ n. n * a) is in omega (arith, e)

  runs : IsBodyRun params_here (whole_body m ds places_here) (λ input. of_bits (product_of input))
  runs =
      let count = few_digits by some low in
      record {
        units = 1 + all_units m ds places_here few count;
        few = omega arith;
        runs = λ input is. run_block (places_here 10) (body_runs m ds places_here few count (take (suc m) input) (one_number (suc m) name input is).size);
        outputs = λ input is. let long = (product_is input is).1 in omega arith;
      }

  computes : Computes Mul (suc m) by (texts.multiplier_text (suc m) ds)
  computes =
      text_computes Mul (suc m) by (texts.multiplier_text (suc m) ds) (pieces m ds) params_here (whole_body m ds places_here)
      (λ input. of_bits (product_of input)) built runs (text_is m ds) (one_input (suc m) name) (λ input is.
      let h = product_is input is in
      (h.1, h.0 ∙ ap (λ (bs : List Bool). by * number bs) (one_number (suc m) name input is).all))

pub multipliers_multiply : MultipliersMultiply
multipliers_multiply zero by low high some few = absurd (omega arith)
multipliers_multiply (suc m) by low high some few = computes m by (omega arith) some few

-- What the lines of the digits of a multiplier mean.
use Rattle.std.proofs.Common.{◌≡◌, ℕ, zero, suc, ◌+◌, ◌-◌, ◌*◌, ◌≤◌, Bool, true, false, List, []}
use Rattle.std.proofs.Common.{◌∷◌, ◌++◌, length, take, drop, Some, refl, ap, sym, subst, ◌∙◌, arith}
use Rattle.std.specs.Prelude.{codes}
use Rattle.std.proofs.lemmas.List.{length-append, length-drop, length-take-le, take_all}
use Rattle.revc_base.specs.declared.place.Place.{Place}
use Rattle.revs_grammar.specs.Forms.{BodyTree, name_of}
use Rattle.revs_terms.specs.Trees as t
use Rattle.revs_terms.specs.Trees.{Tree}
use Rattle.revs_terms.specs.declared.term.Part.TheVariants as part
use Rattle.built_texts.specs.Forms.{num}
use Rattle.built_texts.specs.Meanings.{Scope, of_bits, named, meaning_of, IsRun, AreRuns, no_operands, operand, RunsBody, last_is, let_is}
use Rattle.built_texts.specs.Ways.{shifted}
use Rattle.built_texts.specs.Pieces.{toks_of}
use Rattle.built_texts.proofs.PlaceLemmas.{lettered}
use Rattle.built_texts.proofs.RunLemmas.{run_name, run_constant, run_append, run_slice, run_reg, run_within}
use Rattle.arith_templates.specs.Numbers.{number}
use Rattle.arith_templates.specs.Places.{sums, products}
use Rattle.arith_templates.proofs.PlaceLemmas.{sums_add}
use Rattle.arith_laws.proofs.NameLemmas.{nearest}
use Rattle.arith_laws.proofs.StageLemmas.{within}
use Rattle.arith_laws.proofs.PlusRunLemmas.{carry_meaning, plus_meaning, plus_run}
use Rattle.arith_laws.proofs.ProductPieces.{digit_line}
use Rattle.arith_laws.proofs.DigitReadingLemmas.{zero_terms, shift_term, first_add_term, add_term, in_digits}

-- ---- the number 0

abbrev pub falses : ℕ → List Bool → List Bool
falses zero bs = bs
falses (suc n) bs = false ∷ falses n bs

pub number_of_falses : (n : ℕ) → (number (falses n (false ∷ [])) ≡ 0) × (length (falses n (false ∷ [])) ≡ n + 1)
number_of_falses zero = (refl, refl)
number_of_falses (suc n) = let more = number_of_falses n in (omega (arith, more.0), omega (arith, more.1))

pub zeros_run : (d count : ℕ) (q : ℕ → Place) (first : Tree) (others : List Tree) (bits : List Bool) (k : ℕ) (sc : Scope)
    → AreRuns (suc d) sc (first ∷ others) bits k
    → AreRuns (suc d) sc ((zero_terms count q (first, others)).0 ∷ (zero_terms count q (first, others)).1) (falses count bits) (2 * count + k)
zeros_run d zero q first others bits k sc behind =
    let same : k ≡ 2 * 0 + k = omega arith in subst (λ (n : ℕ). AreRuns (suc d) sc (first ∷ others) bits n) same behind
zeros_run d (suc count) q first others bits k sc behind =
    let same : 2 + (2 * count + k) ≡ 2 * suc count + k = omega arith in
    let terms = zero_terms (suc count) q (first, others) in
    subst (λ (n : ℕ). AreRuns (suc d) sc (terms.0 ∷ terms.1) (falses (suc count) bits) n) same
    (operand (run_constant false (q 0)) (zeros_run d count (shifted 2 q) first others bits k sc behind))

-- ---- the digits

module _ (m : ℕ) (p g : ℕ → Place) (few : m ≤ 199) (base own : Scope) (carry_is : meaning_of (codes "carry") own ≡ Some (carry_meaning g base))
    (us : List Bool) (size : length us ≡ suc m) where
  -- In front of the digit at place k: the number, the function that adds, and what was added so far.
  pub record Stage (k : ℕ) (r : List Bool) (sc : Scope) : Type 0 where
    pub a_is : meaning_of (codes "a") sc ≡ Some (of_bits us)
    pub plus_is : meaning_of (codes "plus") sc ≡ Some (plus_meaning m p g few base own carry_is)
    pub r_is : meaning_of (lettered 114 k) sc ≡ Some (of_bits r)
    pub long : length r ≡ suc m + k

  stage_next : (k : ℕ) (r next : List Bool) (sc : Scope) → Stage k r sc → length next ≡ suc m + (k + 1)
      → Stage (k + 1) next (named (lettered 114 (k + 1)) (of_bits next) sc)
  stage_next k r next sc now long = record {
    a_is = now.a_is;
    plus_is = now.plus_is;
    r_is = nearest (lettered 114 (k + 1)) (of_bits next) sc;
    long = long;
  }

  -- what a digit makes of the sum so far
  abbrev made : ℕ → List Bool → Bool → List Bool
  made k r false = r ++ false ∷ []
  made k r true = take k r ++ sums false (drop k r) us

  made_size : (k : ℕ) (r : List Bool) (d : Bool) → length r ≡ suc m + k → length (made k r d) ≡ suc m + (k + 1)
  made_size k r false long = let whole = length-append r (false ∷ []) in omega arith
  made_size k r true long =
      let low : k ≤ length r = omega arith in
      let front = length-take-le k r low in
      let back : length (drop k r) ≡ length us = omega (arith, length-drop k r, size) in
      let sum = (sums_add false (drop k r) us back).1 in
      let whole = length-append (take k r) (sums false (drop k r) us) in
      omega (arith, whole, front, sum, back, size)

  shift_run : (k : ℕ) (r : List Bool) (sc : Scope) (q : ℕ → Place) → k ≤ 20 → Stage k r sc
      → IsRun 399 sc (shift_term k q) (of_bits (r ++ false ∷ [])) 9000
  shift_run k r sc q low now =
      let whole = length-append r (false ∷ []) in
      let long = now.long in
      run_within (run_append (q 3) (run_name (name_of (lettered 114 k) (q 4)) now.r_is)
      (run_reg (q 5) (operand (run_constant false (q 7)) no_operands) (omega arith)) (omega arith)) (omega arith)

  first_add_run : (r : List Bool) (sc : Scope) (q : ℕ → Place) → Stage 0 r sc → IsRun 399 sc (first_add_term q) (of_bits (sums false r us)) 9000
  first_add_run r sc q now =
      let long : length r ≡ suc m = let l = now.long in omega arith in
      run_within (plus_run m p g few base own carry_is 392 1 1 sc (q 3) (t.used (name_of (lettered 114 0) (q 4))) (t.used (name_of (codes "a")
      (q 5))) r us long size
      now.plus_is (run_name (name_of (lettered 114 0) (q 4)) now.r_is) (run_name (name_of (codes "a") (q 5)) now.a_is)) (omega arith)

  -- the bits below a place, and those from it on
  front_is : (k : ℕ) (r : List Bool) → take (k + 1 - 0) (drop 0 r) ≡ take (k + 1) r
  front_is k r = let same : k + 1 - 0 ≡ k + 1 = omega arith in ap (λ n. take n r) same

  back_is : (k : ℕ) (r : List Bool) → length r ≡ suc m + (k + 1) → take (suc m + k + 1 - (k + 1)) (drop (k + 1) r) ≡ drop (k + 1) r
  back_is k r long = take_all (suc m + k + 1 - (k + 1)) (drop (k + 1) r) (omega (arith, length-drop (k + 1) r))

  add_run : (k : ℕ) (r : List Bool) (sc : Scope) (q : ℕ → Place) → k ≤ 20 → Stage (k + 1) r sc
      → IsRun 399 sc (add_term (suc m) k q) (of_bits (take (k + 1) r ++ sums false (drop (k + 1) r) us)) 9000
  add_run k r sc q low now =
      let long = now.long in
      let front = front_is k r in
      let back = back_is k r long in
      let front_size : length (take (k + 1) r) ≡ k + 1 = length-take-le (k + 1) r (omega arith) in
      let back_size : length (drop (k + 1) r) ≡ suc m = omega (arith, length-drop (k + 1) r) in
      let sum = (sums_add false (drop (k + 1) r) us (back_size ∙ sym size)).1 in
      let whole = length-append (take (k + 1) r) (sums false (drop (k + 1) r) us) in
      let name_4 = run_name (name_of (lettered 114 (k + 1)) (q 4)) now.r_is in
      let name_13 = run_name (name_of (lettered 114 (k + 1)) (q 13)) now.r_is in
      let below : IsRun 398 sc _ (of_bits (take (k + 1) r)) (1 + 1 + (k + 1)) =
      run_within (subst (λ (bs : List Bool). IsRun 398 sc (t.parts (t.used (name_of (lettered 114 (k + 1)) (q 4))) (part.Slice (num 0 (q 7)) (num k
      (q 9)) (q 5) ∷ []))
      (of_bits bs) (1 + 1 + length bs)) front (run_slice 0 k (q 7) (q 9) (q 5) name_4 (omega arith) (omega arith) (omega arith))) (omega arith) in
      let above : IsRun 397 sc _ (of_bits (drop (k + 1) r)) (1 + 1 + suc m) =
      run_within (subst (λ (bs : List Bool). IsRun 397 sc (t.parts (t.used (name_of (lettered 114 (k + 1)) (q 13))) (part.Slice (num (k + 1) (q 16))
      (num (suc m + k) (q 18)) (q 14) ∷ []))
      (of_bits bs) (1 + 1 + length bs)) back (run_slice (k + 1) (suc m + k) (q 16) (q 18) (q 14) name_13 (omega arith) (omega arith) (omega arith)))
      (omega arith) in
      let added = plus_run m p g few base own carry_is 391 (1 + 1 + suc m) 1 sc (q 12) _ (t.used (name_of (codes "a") (q 20))) (drop
      (k + 1) r) us back_size size
      now.plus_is above (run_name (name_of (codes "a") (q 20)) now.a_is) in
      run_within (run_append (q 3) below added (omega arith)) (omega arith)

  -- one line, and what stands behind it
  digit_first : (k : ℕ) (d : Bool) (ds : List Bool) (q : ℕ → Place) (rest : BodyTree) (r : List Bool) (sc : Scope) (bs : List Bool) (units : ℕ)
      → Stage k r sc → k ≤ 20
      → (let inner = in_digits (suc m) (k + 1) ds (shifted (length (toks_of (digit_line (suc m) k d))) q) rest in
      RunsBody 399 (named (lettered 114 (k + 1)) (of_bits (made k r d)) sc) inner.items inner.last (of_bits bs) units)
      → let whole = in_digits (suc m) k (d ∷ ds) q rest in
      RunsBody 399 sc whole.items whole.last (of_bits bs) (10000 + units)
  digit_first k false ds q rest r sc bs units now low behind =
      let size' = made_size k r false now.long in
      let same : 10000 - length (made k r false) + length (made k r false) + units ≡ 10000 + units = omega arith in
      within {rest = in_digits (suc m) k (false ∷ ds) q rest}
      (let_is {name = name_of (lettered 114 (k + 1)) (q 1)} (run_within (shift_run k r sc q low now) (omega arith)) behind) same
  digit_first zero true ds q rest r sc bs units now low behind =
      let size' = made_size 0 r true now.long in
      let same : 10000 - length (made 0 r true) + length (made 0 r true) + units ≡ 10000 + units = omega arith in
      within {rest = in_digits (suc m) 0 (true ∷ ds) q rest}
      (let_is {name = name_of (lettered 114 1) (q 1)} (run_within (first_add_run r sc q now) (omega arith)) behind) same
  digit_first (suc k) true ds q rest r sc bs units now low behind =
      let size' = made_size (suc k) r true now.long in
      let same : 10000 - length (made (suc k) r true) + length (made (suc k) r true) + units ≡ 10000 + units = omega arith in
      let this : suc k ≡ k + 1 = omega arith in
      let next : suc k + 1 ≡ k + 2 = omega arith in
      let few' : k ≤ 20 = omega arith in
      let inner = in_digits (suc m) (suc k + 1) ds (shifted (length (toks_of (digit_line (suc m) (suc k) true))) q) rest in
      let added = subst (λ (j : ℕ). IsRun 399 sc (add_term (suc m) k q) (of_bits (take j r ++ sums false (drop j r) us)) 9000) (sym this)
      (add_run k r sc q few' (subst (λ (j : ℕ). Stage j r sc) this now)) in
      within {rest = in_digits (suc m) (suc k) (true ∷ ds) q rest}
      (let_is {name = name_of (lettered 114 (k + 2)) (q 1)} (run_within added (omega arith))
      (subst (λ (j : ℕ). RunsBody 399 (named (lettered 114 j) (of_bits (made (suc k) r true)) sc) inner.items inner.last (of_bits bs) units) next behind)) same

  products_step : (k : ℕ) (r : List Bool) (d : Bool) (ds : List Bool) → products (made k r d) (k + 1) us ds ≡ products r k us (d ∷ ds)
  products_step k r false ds = refl
  products_step k r true ds = refl

  -- the digits from place k on, in front of the name of the product
  pub digits_run : (k count : ℕ) (ds : List Bool) (q : ℕ → Place) (at : Place) (r : List Bool) (sc : Scope) → Stage k r sc → k + length ds ≡ count → count ≤ 20
      → let whole = in_digits (suc m) k ds q (record { items = []; last = t.used (name_of (lettered 114 count) at) }) in
      RunsBody 399 sc whole.items whole.last (of_bits (products r k us ds)) (10000 * length ds + 1)
  digits_run k count [] q at r sc now same low =
      let here : k ≡ count = omega arith in
      last_is (run_within (run_name (name_of (lettered 114 count) at) (ap (λ n. meaning_of (lettered 114 n) sc) (sym here) ∙ now.r_is)) (omega arith))
  digits_run k count (d ∷ ds) q at r sc now same low =
      let next = made k r d in
      let last : BodyTree = record { items = []; last = t.used (name_of (lettered 114 count) at) } in
      let long = made_size k r d now.long in
      let same' : k + 1 + length ds ≡ count = omega arith in
      let few' : k ≤ 20 = omega arith in
      let units : 10000 + (10000 * length ds + 1) ≡ 10000 * suc (length ds) + 1 = omega arith in
      let more = digits_run (k + 1) count ds (shifted (length (toks_of (digit_line (suc m) k d))) q) at next (named (lettered 114 (k + 1)) (of_bits next) sc)
      (stage_next k r next sc now long) same' low in
      let whole = in_digits (suc m) k (d ∷ ds) q last in
      subst (λ (bs : List Bool). RunsBody 399 sc whole.items whole.last (of_bits bs) (10000 * suc (length ds) + 1)) (products_step k r d ds)
      (within {rest = whole} (digit_first k d ds q last r sc (products next (k + 1) us ds) (10000 * length ds + 1) now few' more) units)

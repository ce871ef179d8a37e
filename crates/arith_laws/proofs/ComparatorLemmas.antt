-- The comparator's text says whether the first number is less.
use Rattle.std.proofs.Common.{◌≡◌, ℕ, zero, suc, ◌+◌, ◌*◌, ◌≤◌, ◌<◌, Bool, false, List, [], ◌∷◌, length, take, drop, Some, refl, ap₂, sym, ◌∙◌, subst, arith}
use Rattle.std.specs.Prelude.{codes, IsTrue, ◌↔◌}
use Rattle.std.proofs.lemmas.Option.{slice_get_within}
use Rattle.list_facts.specs.Bits.{bit_of}
use Rattle.revc_base.specs.declared.place.Place.{Place}
use Rattle.text_places.specs.Places.{start}
use Rattle.revs_grammar.specs.Forms.{name_of}
use Rattle.revs_terms.specs.declared.program.Param.{Param}
use Rattle.revs_terms.specs.declared.term.Name.{Name}
use Rattle.revs_terms.specs.Runs.{IsInput}
use Rattle.revs_terms.specs.Trees as t
use Rattle.built_texts.specs.Meanings.{Scope, of_bit, named, meaning_of, IsRun, RunsBody, last_is, let_is}
use Rattle.built_texts.specs.Ways.{shifted}
use Rattle.built_texts.specs.Programs.{IsBodyRun, IsBuilt}
use Rattle.built_texts.proofs.PlaceLemmas.{lettered, token_place}
use Rattle.built_texts.proofs.RunLemmas.{run_name, run_function, run_block}
use Rattle.arith_templates.specs.declared.kind.Kind.TheVariants.{Less}
use Rattle.arith_templates.specs.Numbers.{number}
use Rattle.arith_templates.specs.Places.{borrow, last_borrow}
use Rattle.arith_templates.specs.Meets.{Meets}
use Rattle.arith_templates.specs.Texts as texts
use Rattle.arith_templates.proofs.PlaceLemmas.{differences_subtract}
use Rattle.arith_laws.specs.Computes.{ComparatorsCompare, Computes}
use Rattle.arith_laws.proofs.NameLemmas.{left_get, left_bit, left_drop, nearest}
use Rattle.arith_laws.proofs.ProgramLemmas.{text_computes, is_built, number_inputs, two_numbers, are_params}
use Rattle.arith_laws.proofs.BorrowPieces.{borrow_function, subtractor, pieces}
use Rattle.arith_laws.proofs.TwoNumberReadingLemmas.{carry_term, taken}
use Rattle.arith_laws.proofs.TwoNumberLemmas.{Known, past_carry, next_run}
use Rattle.arith_laws.proofs.TwoNumberProgramLemmas.{scope_in, scope_one, known_one}
use Rattle.arith_laws.proofs.SubtractorLemmas.{function_reads, apart, function_works, works, has_params, is_less}
use Rattle.arith_laws.proofs.ComparatorTextLemmas.{comparator_spelled, comparator_fits, comparator_good, comparator_is_short, in_borrows}
use Rattle.arith_laws.proofs.ComparatorTextLemmas.{last_body, at_function, at_first, at_borrows, at_close, inner_body, comparator_params}
use Rattle.arith_laws.proofs.ComparatorTextLemmas.{comparator_body, comparator_sentence}

-- ---- lines

module _ (d : ℕ) (us vs : List Bool) where
  -- what the names mean in front of the line of a place
  record Stage (i : ℕ) (c : Bool) (sc : Scope) : Type 0 where
    known : Known subtractor apart d borrow us vs sc
    borrow_in : meaning_of (lettered 99 i) sc ≡ Some (of_bit c)

  -- from a place to the next
  next_stage : {c : Bool} {sc : Scope} (i : ℕ) (z : Bool) → Stage i c sc → i + 1 ≤ 9999 → Stage (i + 1) z (named (lettered 99 (i + 1)) (of_bit z) sc)
  next_stage {sc = sc} i z h few = record {
    known = past_carry subtractor apart d borrow us vs (i + 1) (of_bit z) sc few h.known;
    borrow_in = nearest (lettered 99 (i + 1)) (of_bit z) sc;
  }

  -- all places above 0, and the last borrow
  borrows_run : (xs ys : List Bool) {c : Bool} {sc : Scope} (i n k : ℕ) (p q : ℕ → Place) → length xs ≡ length ys
      → Stage i c sc → drop i us ≡ xs → drop i vs ≡ ys → i + length xs ≡ n → n ≤ 999 → 27 * length xs + 1 ≡ k
      → let whole = in_borrows i (length xs) p (last_body n q) in
      RunsBody (suc (suc (suc (suc (suc d))))) sc whole.items whole.last (of_bit (last_borrow c xs ys)) k
  borrows_run [] ys {c} {sc} i n k p q long h a b at few cost =
      let there : i ≡ n = omega arith in
      let units : 1 ≡ k = omega arith in
      subst (λ (l : ℕ). RunsBody (suc (suc (suc (suc (suc d))))) sc [] (t.used (name_of (lettered 99 n) (q 0))) (of_bit c) l) units
      (last_is (run_name (name_of (lettered 99 n) (q 0)) (subst (λ (j : ℕ). meaning_of (lettered 99 j) sc ≡ Some (of_bit c)) there h.borrow_in)))
  borrows_run (x ∷ xs) [] i n k p q long h a b at few cost = absurd (omega arith)
  borrows_run (x ∷ xs) (y ∷ ys) {c} {sc} i n k p q long h a b at few cost =
      let z = borrow x y c in
      let low : i < length us = below us i x xs a in
      let low' : i < length vs = below vs i y ys b in
      let is : borrow (bit_of us i) (bit_of vs i) c ≡ z = ap₂ (λ (u v : Bool). borrow u v c) (left_bit us i x xs a) (left_bit vs i y ys b) in
      let here = subst (λ (u : Bool). IsRun (suc (suc (suc (suc (suc d))))) sc (carry_term subtractor i p) (of_bit u) 27) is
      (next_run subtractor apart d borrow us vs i c sc p low low' (omega arith) h.known h.borrow_in) in
      let behind = borrows_run xs ys (i + 1) n (27 * length xs + 1) (shifted 16 p) q (omega arith) (next_stage i z h (omega arith))
      (left_drop us i x xs a) (left_drop vs i y ys b) (omega arith) few refl in
      let both = let_is {name = name_of (lettered 99 (i + 1)) (p 1)} here behind in
      let units : 27 + (27 * length xs + 1) ≡ k = omega arith in
      let whole = in_borrows i (suc (length xs)) p (last_body n q) in
      subst (λ (u : ℕ). RunsBody (suc (suc (suc (suc (suc d))))) sc whole.items whole.last (of_bit (last_borrow z xs ys)) u) units both
    where
      below : (bs : List Bool) (i : ℕ) (b : Bool) (rest : List Bool) → drop i bs ≡ b ∷ rest → i < length bs
      below bs i b rest e = slice_get_within bs i b (left_get bs i b rest e)

-- ---- the program

module _ (m : ℕ) (few : m ≤ 199) where
  abbrev p : ℕ → Place
  p = token_place start (pieces m)

  -- the names behind the function
  abbrev scope_here : List Bool → List Bool → Scope
  scope_here us vs = scope_one subtractor apart has_params borrow_function function_reads borrow function_works (at_function m p) us vs

  abbrev all_units : ℕ
  all_units = 1 + (10 + (27 * m + 1))

  body_runs : (us vs : List Bool) → length us ≡ suc m → length vs ≡ suc m
      → RunsBody 399 (scope_in us vs) (inner_body m p).items (inner_body m p).last (of_bit (last_borrow false us vs)) all_units
  body_runs [] vs e g = absurd (omega arith)
  body_runs (x ∷ xs) [] e g = absurd (omega arith)
  body_runs (x ∷ xs) (y ∷ ys) e g =
      let us = x ∷ xs in
      let vs = y ∷ ys in
      let long : length xs ≡ m = omega arith in
      let c = borrow x y false in
      let sc = scope_here us vs in
      let q = at_function m p in
      let v = at_first m p in
      let known = known_one subtractor apart has_params borrow_function function_reads borrow function_works 394 q us vs in
      let inner = function_works.body_works 394 q false false false (scope_in us vs) in
      let stage : Stage 394 us vs 1 c (named (lettered 99 1) (of_bit c) sc) = record {
        known = past_carry subtractor apart 394 borrow us vs 1 (of_bit c) sc (omega arith) known;
        borrow_in = nearest (lettered 99 1) (of_bit c) sc;
      } in
      let rest = subst (λ (n : ℕ). let whole = in_borrows 1 n (at_borrows m p) (last_body (suc m) (at_close m p)) in
      RunsBody 399 (named (lettered 99 1) (of_bit c) sc) whole.items whole.last (of_bit (last_borrow c xs ys)) (27 * m + 1)) long
      (borrows_run 394 us vs xs ys 1 (suc m) (27 * m + 1) (at_borrows m p) (at_close m p) (omega arith) stage refl refl
      (omega arith) (omega arith) (omega arith)) in
      let_is {name = name_of (codes "lend") (q 1)} (run_function (taken q) (function_reads.function_body q) inner.tree (q 2) inner.scoped_as)
      (let_is {name = name_of (lettered 99 1) (v 1)} (works.first_works 394 sc v us vs x y known.first_is known.second_is refl refl) rest)

  abbrev params_here : List Param
  params_here = comparator_params m p

  abbrev first_name : Name
  first_name = name_of (codes "a") (p 2)

  abbrev second_name : Name
  second_name = name_of (codes "b") (p 10)

  -- the last borrow of an input
  abbrev borrow_of : List Bool → Bool
  borrow_of input = last_borrow false (take (suc m) input) (take (suc m) (drop (suc m) input))

  built : IsBuilt (pieces m) params_here (comparator_body m p)
  built =
      is_built (comparator_good m (omega arith)) (comparator_fits m) (comparator_is_short m few) (comparator_sentence m p)
      (are_params (suc m) first_name second_name (omega arith) (omega arith)) refl

  runs : IsBodyRun params_here (comparator_body m p) (λ input. of_bit (borrow_of input))
  runs = record {
    units = 1 + all_units;
    few = omega arith;
    runs = λ input is. let two = two_numbers (suc m) first_name second_name input is in
        run_block (p 18) (body_runs (take (suc m) input) (take (suc m) (drop (suc m) input)) two.first two.second);
    outputs = λ input is. tt;
  }

  it_meets : (by : ℕ) (input : List Bool) → IsInput params_here input → Meets Less (suc m) by input (borrow_of input ∷ [])
  it_meets by input is =
      let two = two_numbers (suc m) first_name second_name input is in
      let first = take (suc m) input in
      let second = take (suc m) (drop (suc m) input) in
      let h = differences_subtract false first second (two.first ∙ sym two.second) in
      subst (λ (bits : List Bool). IsTrue (borrow_of input) ↔ (number first < number bits)) two.rest
      (is_less (number first) (number second) (borrow_of input) h.less)

  pub computes : (by : ℕ) → Computes Less (suc m) by (texts.comparator_text (suc m))
  computes by =
      text_computes Less (suc m) by (texts.comparator_text (suc m)) (pieces m) params_here (comparator_body m p) (λ input. of_bit (borrow_of input)) built runs
      (comparator_spelled m) (number_inputs (suc m) first_name second_name) (λ input is. (refl, it_meets by input is))

pub comparators_compare : ComparatorsCompare
comparators_compare zero by low high = absurd (omega arith)
comparators_compare (suc m) by low high = computes m (omega arith) by

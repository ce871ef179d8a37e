-- The text of an incrementer adds 1.
use Rattle.std.proofs.Common.{◌≡◌, ℕ, zero, suc, ◌+◌, ◌*◌, ◌≤◌, Bool, true, false, ◌&&◌, List, [], ◌∷◌, length, take, drop, Some, refl, ap}
use Rattle.std.proofs.Common.{sym, ◌∙◌, subst, arith}
use Rattle.std.specs.Prelude.{codes}
use Rattle.std.specs.Bool.{xor}
use Rattle.std.proofs.lemmas.Option.{slice_get-get_or}
use Rattle.list_facts.specs.Bits.{bit_of}
use Rattle.list_facts.proofs.BitLemmas.{xor_swap}
use Rattle.revc_base.specs.declared.place.Place.{Place}
use Rattle.text_places.specs.Places.{start}
use Rattle.revs_grammar.specs.Forms.{name_of}
use Rattle.revs_terms.specs.declared.term.Name.{Name}
use Rattle.revs_terms.specs.declared.program.Param.{Param}
use Rattle.revs_terms.specs.Runs.{IsInput}
use Rattle.built_texts.specs.Meanings.{Scope, of_bit, of_bits, no_names, named, meaning_of, IsRun, no_operands, operand, RunsBody}
use Rattle.built_texts.specs.Programs.{IsBodyRun, IsBuilt}
use Rattle.built_texts.proofs.PlaceLemmas.{lettered, token_place}
use Rattle.built_texts.proofs.RunLemmas.{run_name, run_constant, run_xor, run_and, run_block, run_within}
use Rattle.arith_templates.specs.Numbers.{number}
use Rattle.arith_templates.specs.Places.{increments}
use Rattle.arith_templates.specs.Texts as texts
use Rattle.arith_templates.specs.declared.kind.Kind.TheVariants.{Inc}
use Rattle.arith_templates.proofs.PlaceLemmas.{increments_add}
use Rattle.arith_laws.specs.Computes.{Computes}
use Rattle.arith_laws.proofs.NameLemmas.{left_bit, left_drop}
use Rattle.arith_laws.proofs.StageLemmas.{bit_run, IsKept}
use Rattle.arith_laws.proofs.RippleReadingLemmas.{at_carry}
use Rattle.arith_laws.proofs.RippleLemmas.{rippled, Works, ripple_run}
use Rattle.arith_laws.proofs.ProgramLemmas.{text_computes, is_built, one_input, one_number, is_param}
use Rattle.arith_laws.specs.Computes.{IncrementersAddOne}
use Rattle.arith_laws.proofs.IncrementPieces.{incrementer, pieces}
use Rattle.arith_laws.proofs.IncrementReadingLemmas.{reads, at_sum, whole_inner, params, whole_body, sentence}
use Rattle.arith_laws.proofs.IncrementTextLemmas.{text_is, all_fit, all_good, is_short}

and_one : (x : Bool) → x ≡ x && true
and_one true = refl
and_one false = refl

module _ (us : List Bool) where
  -- ---- bits

  -- the bit of a place, and the carry out of it
  abbrev sum_at : ℕ → Bool → Bool
  sum_at i c = xor (bit_of us i) c

  abbrev next_at : ℕ → Bool → Bool
  next_at i c = bit_of us i && c

  rippled_is : (xs : List Bool) (i : ℕ) (c : Bool) → drop i us ≡ xs → rippled sum_at next_at c i (length xs) ≡ increments c xs
  rippled_is [] i c left = refl
  rippled_is (x ∷ xs) i c left =
      ap (λ (u : Bool). xor u c ∷ rippled sum_at next_at (u && c) (i + 1) (length xs)) (left_bit us i x xs left)
      ∙ ap (λ (bs : List Bool). xor x c ∷ bs) (rippled_is xs (i + 1) (x && c) (left_drop us i x xs left))

  -- ---- lines

  -- the number is known by its name
  abbrev Known : Scope → Type 0
  Known sc = meaning_of (codes "a") sc ≡ Some (of_bits us)

  kept : IsKept 115 Known
  kept = record {
    bits = λ i m sc few known. known;
    carries = λ i m sc few known. known;
    apart = λ k i m sc. refl;
  }

  works : (d n : ℕ) → n ≤ 999 → length us ≡ n → Works incrementer 2 reads (suc (suc (suc d))) Known sum_at next_at n
  works d n few size = record {
    kept = kept;
    sum_works = λ i c made sc p low now. run_within (run_xor
        (bit_run i (p 3) (p 4) (p 6) now.below.known (slice_get-get_or us i false (omega arith)) (omega arith))
        (operand (run_name (name_of (lettered 99 i) (p 9)) now.c_is) no_operands)) (omega arith);
    carry_works = λ i c s made sc p low now. run_within (run_and
        (bit_run i (p 3) (p 4) (p 6) now.below.known (slice_get-get_or us i false (omega arith)) (omega arith))
        (operand (run_name (name_of (lettered 99 i) (p 9)) now.c_is) no_operands)) (omega arith);
  }

-- ---- the body

module _ (m by : ℕ) (few : m ≤ 199) where
  abbrev p : ℕ → Place
  p = token_place start (pieces m)

  abbrev scope_in : List Bool → Scope
  scope_in us = named (codes "a") (of_bits us) no_names

  abbrev all_units : ℕ
  all_units = 8 + (27 + (35 * m + (1 + (suc m + 1 + (suc m + 1)))))

  body_runs : (us : List Bool) → length us ≡ suc m
      → RunsBody 399 (scope_in us) (whole_inner m p).items (whole_inner m p).last (of_bits (increments true us)) all_units
  body_runs [] size = absurd (omega arith)
  body_runs (x ∷ xs) size =
      let us = x ∷ xs in
      let u = at_sum m p in
      let v = at_carry incrementer 2 reads m u in
      let b = xor true x in
      let own = scope_in us in
      let long : length xs ≡ m = omega arith in
      let n_few : suc m ≤ 999 = omega arith in
      let sum : IsRun 399 own (reads.first_sum_term u) (of_bit b) 8 = run_within
      (run_xor (run_constant true (u 3)) (operand (bit_run 0 (u 5) (u 6) (u 8) refl refl (omega arith)) no_operands)) (omega arith) in
      let carry : IsRun 399 (named (lettered 115 0) (of_bit b) own) (reads.first_carry_term v) (of_bit x) 27 =
      run_within (bit_run 0 (v 3) (v 4) (v 6) refl refl (omega arith)) (omega arith) in
      let all = ripple_run incrementer 2 reads 397 (Known us) (sum_at us) (next_at us) (suc m) n_few (works us 396 (suc m) n_few size) m u refl b x own refl
      sum carry in
      subst (λ (bs : List Bool). RunsBody 399 own (whole_inner m p).items (whole_inner m p).last (of_bits bs) all_units)
      (ap (λ (k : ℕ). b ∷ rippled (sum_at us) (next_at us) x 1 k) (sym long) ∙ ap (λ (bs : List Bool). b ∷ bs) (rippled_is us xs 1 x refl)
      ∙ ap (λ (c : Bool). c ∷ increments x xs) (xor_swap true x) ∙ ap (λ (c : Bool). xor x true ∷ increments c xs) (and_one x)) all

  -- ---- the text

  abbrev params_here : List Param
  params_here = params m p

  abbrev name : Name
  name = name_of (codes "a") (p 2)

  abbrev sum_of : List Bool → List Bool
  sum_of input = increments true (take (suc m) input)

  built : IsBuilt (pieces m) params_here (whole_body m p)
  built =
      is_built (all_good m (omega arith)) (all_fit m) (is_short m few) (sentence m p) (is_param (suc m) name (omega arith) (omega arith)) refl

  length-sum : (input : List Bool) → IsInput params_here input → length (sum_of input) ≡ suc m + 1
  length-sum input is = (increments_add true (take (suc m) input)).1 ∙ ap (λ (k : ℕ). k + 1) (one_number (suc m) name input is).size

  runs : IsBodyRun params_here (whole_body m p) (λ input. of_bits (sum_of input))
  runs = record {
    units = 1 + all_units;
    few = omega arith;
    runs = λ input is. run_block (p 10) (body_runs (take (suc m) input) (one_number (suc m) name input is).size);
    outputs = λ input is. let long = length-sum input is in omega arith;
  }

  computes : Computes Inc (suc m) by (texts.incrementer_text (suc m))
  computes =
      text_computes Inc (suc m) by (texts.incrementer_text (suc m)) (pieces m) params_here (whole_body m p) (λ input. of_bits (sum_of input)) built runs
      (text_is m) (one_input (suc m) name) (λ input is. (length-sum input is, it_meets input is))
    where
      it_meets : (input : List Bool) → IsInput params_here input → number (sum_of input) ≡ number input + 1
      it_meets input is =
          let h = (increments_add true (take (suc m) input)).0 in
          let one = ap number (one_number (suc m) name input is).all in
          omega arith

pub incrementers_add_one : IncrementersAddOne
incrementers_add_one zero by low high = absurd (omega arith)
incrementers_add_one (suc m) by low high = computes m by (omega arith)

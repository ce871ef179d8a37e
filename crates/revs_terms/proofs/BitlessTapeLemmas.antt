-- The start and the end of the two runs side by side, and what this says of the tape that they leave.
use Rattle.std.proofs.Common.{◌≡◌, ℕ, suc, ◌+◌, ◌≤◌, leb, Bool, true, false, List, [], ◌∷◌, ◌++◌, length, map, sum, replicate, refl, sym, ap, ◌∙◌, subst, arith}
use Rattle.std.proofs.Common.{append_assoc}
use Rattle.std.specs.List.{AllByRecursion, list_all}
use Rattle.std.proofs.lemmas.Bool.{leb-true}
use Rattle.std.proofs.lemmas.List.{get_or_at, length-append, length-map, length-replicate}
use Rattle.revc_base.specs.declared.place.Place.{Place}
use Rattle.revs_tape.specs.declared.tape.Ref.{Ref}
use Rattle.revs_tape.specs.declared.tape.Entry.{Entry}
use Rattle.revs_tape.specs.declared.tape.Claim.{Claim}
use Rattle.revs_tape.specs.Tapes.{IsTape, bit_of, bit_at, bit_on, written_by, IsKnown, AreKnown}
use Rattle.revs_terms.specs.declared.program.Param.{Param}
use Rattle.revs_terms.specs.Programs.{widths_of, AreParams}
use Rattle.revs_terms.specs.Trees.{Tree}
use Rattle.revs_terms.specs.Terms.{place_of}
use Rattle.revs_terms.specs.Running.{Value, unit, bit, register, number, closure, nothing, Stamped, Met, State, Outcome, stuck, went, after, run_of}
use Rattle.revs_terms.specs.Runs.{inputs_from, start, params_in, locations_of, read_all, no_bits, real_bits, nothings, run_of_program, run_without_bits}
use Rattle.revs_terms.specs.Runs.{IsInput, LeavesOn, tape_of, SameForAll, RunsLeaveTapes, RunsWriteFew}
use Rattle.std.proofs.lemmas.Bool.{and_parts}
use Rattle.revs_terms.proofs.PairedLemmas.{OptionPaired, Paired, same_length}
use Rattle.revs_terms.proofs.BitlessRunLemmas.{IsAlike, IsAlikeClaim, AreAlike, Answers, GoTogether, both_stuck, next, next_with, answers, both_provided}
use Rattle.revs_terms.proofs.BitlessRunLemmas.{both_read, both_run_of}
use Rattle.revs_terms.specs.declared.cause.Cause.{Cause}
use Rattle.revs_terms.specs.declared.cause.Cause.TheVariants as causes

-- ---- lists that are paired

module _ {A C : Type 0} (R : A → C → Type 0) where
  same_map : {D : Type 0} (f : A → D) (g : C → D) → ((x : A) (y : C) → R x y → g y ≡ f x) → (xs : List A) (ys : List C) → Paired R xs ys → map g ys ≡ map f xs
  same_map f g e [] [] h = refl
  same_map f g e [] (y ∷ ys) h = absurd h
  same_map f g e (x ∷ xs) [] h = absurd h
  same_map f g e (x ∷ xs) (y ∷ ys) h = ap (λ d. d ∷ map g ys) (e x y h.0) ∙ ap (λ ds. f x ∷ ds) (same_map f g e xs ys h.1)

  same_map_map : {D E : Type 0} (f : A → D) (k : D → E) (g : C → E) → ((x : A) (y : C) → R x y → g y ≡ k (f x)) → (xs : List A) (ys : List C) → Paired R xs ys
      → map g ys ≡ map k (map f xs)
  same_map_map f k g e [] [] h = refl
  same_map_map f k g e [] (y ∷ ys) h = absurd h
  same_map_map f k g e (x ∷ xs) [] h = absurd h
  same_map_map f k g e (x ∷ xs) (y ∷ ys) h = ap (λ d. d ∷ map g ys) (e x y h.0) ∙ ap (λ ds. k (f x) ∷ ds) (same_map_map f k g e xs ys h.1)

  all_map : {D : Type 0} (f : A → D) (P : D → Type 0) → ((x : A) (y : C) → R x y → P (f x)) → (xs : List A) (ys : List C) → Paired R xs ys
      → AllByRecursion P (map f xs)
  all_map f P e [] ys h = tt
  all_map f P e (x ∷ xs) [] h = absurd h
  all_map f P e (x ∷ xs) (y ∷ ys) h = (e x y h.0, all_map f P e xs ys h.1)

module _ (input : List Bool) where
  -- ---- the start

  inputs_alike : (i : ℕ) (front bits : List Bool) → i ≡ length front → input ≡ front ++ bits
      → Paired (OptionPaired (IsAlike input [])) (inputs_from i (nothings (length bits))) (inputs_from i bits)
  inputs_alike i front [] e cut = tt
  inputs_alike i front (b ∷ bits) e cut =
      let longer : length (front ++ b ∷ []) ≡ length front + 1 = length-append front (b ∷ []) in
      let whole : length input ≡ length front + suc (length bits) = ap length cut ∙ length-append front (b ∷ bits) in (
        record { stamp = refl; known = omega arith; bit = sym (ap (λ l. bit_of l i) cut ∙ get_or_at front b bits false i (sym e)) },
        inputs_alike (i + 1) (front ++ b ∷ []) bits (omega arith) (cut ∙ sym (append_assoc front (b ∷ []) bits)),
      )

  starts_alike : (n : ℕ) → length input ≡ n → AreAlike input (start (nothings n)) (start input)
  starts_alike n e = record {
    log = refl;
    work = refl;
    known = tt;
    few_entries = omega arith;
    few_claims = omega arith;
    claims = tt;
    store = subst (λ k. Paired (OptionPaired (IsAlike input [])) (inputs_from 0 (nothings k)) (inputs_from 0 input)) e (inputs_alike 0 [] input refl refl);
  }

  -- ---- the end

  abbrev Places : Answers input (List ℕ) (List ℕ)
  Places a s c t = (a ≡ c) × (length c ≤ 1024) × AreAlike input s t

  both_locations_of : (at : Place) (value : Value) {s : State (Unit {0})} {t : State Bool} → AreAlike input s t
      → GoTogether input Places (locations_of at value s) (locations_of at value t)
  both_locations_of at unit h = both_stuck input causes.NoOutput at
  both_locations_of at (bit location) h = record { side = (refl, omega arith, h) }
  both_locations_of at (register locations) h =
      both_provided input (leb (length locations) 1024) (leb (length locations) 1024) causes.Outputs at refl (λ fits.
      let few : length locations ≤ 1024 = leb-true (length locations) 1024 fits in record { side = (refl, few, h) })
  both_locations_of at (number k) h = both_stuck input causes.NoOutput at
  both_locations_of at (closure names body env) h = both_stuck input causes.NoOutput at

  -- the outputs that are read, so many of them, with the log as it was
  abbrev Reads : ℕ → List Entry → Answers input (List (Stamped (Unit {0}))) (List (Stamped Bool))
  Reads count log a s c t = AreAlike input s t × (t.log ≡ log) × Paired (IsAlike input log) a c × (length c ≡ count)

  both_read_all : (at : Place) (locations : List ℕ) {s : State (Unit {0})} {t : State Bool} → AreAlike input s t
      → GoTogether input (Reads (length locations) t.log) (read_all no_bits at locations s) (read_all real_bits at locations t)
  both_read_all at [] h = record { side = (h, refl, tt, refl) }
  both_read_all at (l ∷ ls) {s} {t} h = both_read input l at _ _ h (λ a b alike.
      next_with input (Reads (length ls) t.log) (read_all no_bits at ls s) (read_all real_bits at ls t) (both_read_all at ls h)
      (λ more s more' t r. record { side = (r.0, r.1, (alike, r.2), ap suc r.3) }))

  -- how the runs of a program end
  pub record AreEnds (outputs : List (Stamped (Unit {0}))) (s : State (Unit {0})) (bits : List (Stamped Bool)) (t : State Bool) : Type 0 where
    pub alike : AreAlike input s t
    pub stamps : Paired (IsAlike input t.log) outputs bits
    pub few : length bits ≤ 1024

  all_read : (n : ℕ) (log : List Entry) (outputs : List (Stamped (Unit {0}))) (s : State (Unit {0})) (bits : List (Stamped Bool)) (t : State Bool)
      → n ≤ 1024 → Reads n log outputs s bits t → AreEnds outputs s bits t
  all_read n log outputs s bits t few r =
      let count = r.3 in
      record { alike = r.0; stamps = subst (λ l. Paired (IsAlike input l) outputs bits) (sym r.1) r.2; few = omega arith }

  both_end : (at : Place) (value : Value) (s : State (Unit {0})) (t : State Bool) → AreAlike input s t
      → GoTogether input AreEnds (after (locations_of at value s) (read_all no_bits at)) (after (locations_of at value t) (read_all real_bits at))
  both_end at value s t h =
      next_with input Places (locations_of at value s) (locations_of at value t) (both_locations_of at value h) (λ ls s ms t r.
      subst (λ ks. GoTogether input AreEnds (read_all no_bits at ks s) (read_all real_bits at ms t)) (sym r.0)
      (answers input (Reads (length ms) t.log) AreEnds (read_all no_bits at ms s) (read_all real_bits at ms t)
      (λ outputs s' bits t' reads. all_read (length ms) t.log outputs s' bits t' r.1 reads) (both_read_all at ms r.2)))

  both_runs : (left : ℕ) (params : List Param) (body : Tree) (n : ℕ) → length input ≡ n
      → GoTogether input AreEnds (after (run_of no_bits left (params_in 0 params nothing) body (start (nothings n)))
      (λ value s. after (locations_of (place_of body) value s) (read_all no_bits (place_of body))))
      (after (run_of real_bits left (params_in 0 params nothing) body (start input))
      (λ value s. after (locations_of (place_of body) value s) (read_all real_bits (place_of body))))
  both_runs left params body n e =
      next input (both_run_of input left (params_in 0 params nothing) body (start (nothings n)) (start input) (starts_alike n e)) (both_end (place_of body))

  both_programs : (params : List Param) (body : Tree) → IsInput params input
      → GoTogether input AreEnds (run_without_bits params body) (run_of_program params body input)
  both_programs params body e = both_runs 400 params body (sum (widths_of params)) e

  -- where the run without bits is stuck, the other is
  stuck_too : {A C : Type 0} (R : Answers input A C) (why : Cause) (at : Place) (p : Outcome Bool C) → GoTogether input R (stuck why at) p → p ≡ stuck why at
  stuck_too R why at (stuck reason place) h = ap (λ r. stuck r place) (sym h.side.0) ∙ ap (λ q. stuck why q) (sym h.side.1)
  stuck_too R why at (went c t) h = absurd h.side

  -- where it ends, the other does
  record Ended {A C : Type 0} (R : Answers input A C) (a : A) (s : State (Unit {0})) (p : Outcome Bool C) : Type 0 where
    answer : C
    state : State Bool
    is : p ≡ went answer state
    meets : R a s answer state

  ended_too : {A C : Type 0} (R : Answers input A C) (a : A) (s : State (Unit {0})) (p : Outcome Bool C) → GoTogether input R (went a s) p → Ended R a s p
  ended_too R a s (stuck why at) h = absurd h.side
  ended_too R a s (went c t) h = record { answer = c; state = t; is = refl; meets = h.side }

  both_end_together : (params : List Param) (body : Tree) (outputs : List (Stamped (Unit {0}))) (s : State (Unit {0})) → IsInput params input
      → run_without_bits params body ≡ went outputs s → Ended AreEnds outputs s (run_of_program params body input)
  both_end_together params body outputs s e went_so =
      ended_too AreEnds outputs s (run_of_program params body input)
      (subst (λ o. GoTogether input AreEnds o (run_of_program params body input)) went_so (both_programs params body e))

  -- ---- the tape that they leave

  left_on : (params : List Param) (body : Tree) (outputs : List (Stamped (Unit {0}))) (s : State (Unit {0}))
      → Ended AreEnds outputs s (run_of_program params body input) → LeavesOn params body (tape_of params outputs s) input
  left_on params body outputs s e =
      let t : State Bool = e.state in
      let log : s.log ≡ t.log = e.meets.alike.log in
      let claims = e.meets.alike.claims in
      let stamps = e.meets.stamps in
      record {
        outputs = e.answer;
        state = t;
        ends = e.is;
        entries = sym log;
        claims = same_map (IsAlikeClaim input t.log) (λ m. m.claim) (λ m. m.claim) (λ a b h. sym h.claim) s.claims t.claims claims;
        stamps = same_map (IsAlike input t.log) (λ o. o.stamp) (λ o. o.stamp) (λ a b h. sym h.stamp) outputs e.answer stamps;
        claim_bits = same_map_map (IsAlikeClaim input t.log) (λ m. m.claim) (λ c. bit_on (tape_of params outputs s) input c.of) (λ m. m.bit)
            (λ a b h. h.bit ∙ bits log b.claim.of a.claim.of (ap (λ (c : Claim). c.of) (sym h.claim))) s.claims t.claims claims;
        output_bits = same_map_map (IsAlike input t.log) (λ o. o.stamp) (bit_on (tape_of params outputs s) input) (λ o. o.bit)
            (λ a b h. h.bit ∙ bits log b.stamp a.stamp (sym h.stamp)) outputs e.answer stamps;
      }
    where
      bits : {log old : List Entry} → log ≡ old → (r q : Ref) → r ≡ q → bit_at input (written_by input [] old) r ≡ bit_at input (written_by input [] log) q
      bits {log} {old} l r q same = ap (λ x. bit_at input (written_by input [] x) r) (sym l) ∙ ap (bit_at input (written_by input [] log)) same

  kept_tape : (params : List Param) (body : Tree) (outputs : List (Stamped (Unit {0}))) (s : State (Unit {0})) → AreParams params → IsInput params input
      → Ended AreEnds outputs s (run_of_program params body input) → IsTape (tape_of params outputs s)
  kept_tape params body outputs s ps whole e =
      let t : State Bool = e.state in
      let log : s.log ≡ t.log = e.meets.alike.log in
      let few_entries = e.meets.alike.few_entries in
      let few_claims = e.meets.alike.few_claims in
      let few_outputs = e.meets.few in
      let same_claims = same_length (IsAlikeClaim input t.log) s.claims t.claims e.meets.alike.claims in
      let same_outputs = same_length (IsAlike input t.log) outputs e.answer e.meets.stamps in
      record {
        widths = record { bits = positive (widths_of params) ps.bits; inputs = ps.inputs };
        known = subst (λ l. AreKnown (sum (widths_of params)) 0 l) (sym log) (subst (λ n. AreKnown n 0 t.log) whole e.meets.alike.known);
        few_entries = omega (arith, ap length log);
        claims = all_map (IsAlikeClaim input t.log) (λ m. m.claim) (λ c. IsKnown (sum (widths_of params)) (length s.log) c.of)
            (λ a b h. known log b.claim.of a.claim.of (ap (λ (c : Claim). c.of) (sym h.claim)) h.known) s.claims t.claims e.meets.alike.claims;
        few_claims = omega (arith, length-map s.claims (λ (m : Met (Unit {0})). m.claim));
        outputs = all_map (IsAlike input t.log) (λ o. o.stamp) (IsKnown (sum (widths_of params)) (length s.log))
            (λ a b h. known log b.stamp a.stamp (sym h.stamp) h.known) outputs e.answer e.meets.stamps;
        few_outputs = omega (arith, length-map outputs (λ (o : Stamped (Unit {0})). o.stamp));
      }
    where
      positive : (widths : List ℕ) → list_all (λ width. leb 1 width) widths ≡ true → AllByRecursion (λ width. 1 ≤ width) widths
      positive [] e = tt
      positive (w ∷ ws) e = let h = and_parts (leb 1 w) (list_all (λ width. leb 1 width) ws) e in (leb-true 1 w h.0, positive ws h.1)

      known : {log old : List Entry} → log ≡ old → (r q : Ref) → r ≡ q → IsKnown (length input) (length old) r
          → IsKnown (sum (widths_of params)) (length log) q
      known {log} {old} l r q same h =
          subst (λ x. IsKnown (sum (widths_of params)) (length x) q) (sym l)
          (subst (λ x. IsKnown (sum (widths_of params)) (length old) x) same (subst (λ n. IsKnown n (length old) r) whole h))

pub same_for_all : SameForAll
same_for_all params body = (
  λ why at e input whole. stuck_too input (AreEnds input) why at (run_of_program params body input)
      (subst (λ o. GoTogether input (AreEnds input) o (run_of_program params body input)) e (both_programs input params body whole)),
  λ outputs s e. record { widths = refl; left = λ input whole. left_on input params body outputs s (both_end_together input params body outputs s whole e) },
)

-- An input will do, as the one of false bits.
pub leaves_tape : RunsLeaveTapes
leaves_tape params body outputs s ps e =
    let input : List Bool = replicate (sum (widths_of params)) false in
    let whole : length input ≡ sum (widths_of params) = length-replicate (sum (widths_of params)) false in
    kept_tape input params body outputs s ps whole (both_end_together input params body outputs s whole e)

pub writes_few : RunsWriteFew
writes_few params body outputs s e =
    let input : List Bool = replicate (sum (widths_of params)) false in
    let whole : length input ≡ sum (widths_of params) = length-replicate (sum (widths_of params)) false in
    few input (both_end_together input params body outputs s whole e)
  where
    few : (input : List Bool) {end : Outcome Bool (List (Stamped Bool))} → Ended input (AreEnds input) outputs s end → length s.log ≤ 262144
    few input ended = subst (λ l. length l ≤ 262144) (sym ended.meets.alike.log) ended.meets.alike.few_entries

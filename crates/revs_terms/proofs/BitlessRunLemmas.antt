-- The run without bits and the run on an input, side by side: both are stuck alike, or both go on with the same answer, the same log and
-- the same stamps, and each bit is the bit of its stamp.
use Rattle.std.proofs.Common.{◌≡◌, ℕ, zero, suc, ◌+◌, ◌≤◌, leb, Bool, true, false, ◌&&◌, List, [], ◌∷◌, ◌++◌, length, refl, sym, ap, ◌∙◌}
use Rattle.std.proofs.Common.{subst, arith}
use Rattle.std.specs.Prelude.{Option, Some, None, slice_get, ℤ, pos, ◌+ℤ◌}
use Rattle.std.specs.Bool.{xor}
use Rattle.std.proofs.lemmas.List.{length-append}
use Rattle.std.proofs.lemmas.Bool.{leb-true}
use Rattle.revc_base.specs.declared.place.Place.{Place}
use Rattle.revs_tape.specs.declared.tape.Ref.{Ref}
use Rattle.revs_tape.specs.declared.tape.Ref.TheVariants as refs
use Rattle.revs_tape.specs.declared.tape.Entry.{Entry}
use Rattle.revs_tape.specs.declared.tape.Entry.TheVariants as entries
use Rattle.revs_tape.specs.declared.tape.Kind.{Kind}
use Rattle.revs_tape.specs.declared.tape.Kind.TheVariants as kinds
use Rattle.revs_tape.specs.declared.tape.Claim.{Claim}
use Rattle.revs_tape.specs.Tapes.{bit_at, entry_bit, written_by, IsKnown, IsKnownEntry, AreKnown}
use Rattle.revs_tape.proofs.TapeLemmas.{IsKnown-later, AreKnown-push}
use Rattle.revs_terms.specs.declared.term.Unit as u
use Rattle.revs_terms.specs.declared.term.Unit.TheVariants as units
use Rattle.revs_terms.specs.declared.term.Step.{Step}
use Rattle.revs_terms.specs.declared.term.Part.{Part}
use Rattle.revs_terms.specs.declared.term.Part.TheVariants as part
use Rattle.revs_terms.specs.Trees.{Tree, ItemTree, list_of, items_of, used, bool, reg, block, function, parts, apply, append, rotate, clean, assert, ands, xors}
use Rattle.revs_terms.specs.Trees.{assign, loop, bind, run}
use Rattle.revs_terms.specs.Terms.{place_of, unit_place}
use Rattle.revs_terms.specs.Running.{Value, unit, bit, register, number, closure, Environment, bound, value_at, bound_length, Stamped, Met, State, Outcome}
use Rattle.revs_terms.specs.Running.{stuck, went, after, provided, given, moved, is_number, turns, element, places, turned, worked, registered, written, read}
use Rattle.revs_terms.specs.Running.{as_bit, as_register, as_number, unit_of, summed, more_of, number_of, bit_of, bits_of, part_of, parts_of, items_run}
use Rattle.revs_terms.specs.Running.{turns_of, apply_to, apply_all, left_by, claimed, chain_of, chain, term_of, run_of}
use Rattle.revs_terms.specs.Runs.{no_bits, real_bits}
use Rattle.revs_terms.proofs.PairedLemmas.{OptionPaired, Paired, option_weaker, weaker, pushed, same_length, stored, found}
use Rattle.revs_terms.proofs.LogLemmas.{bit_at-push, bit_at-newest}
use Rattle.revs_terms.specs.declared.cause.Cause.{Cause}
use Rattle.revs_terms.specs.declared.cause.Cause.TheVariants as causes

module _ (input : List Bool) where
  -- a stamp without a bit, and with the bit that it has after these writes
  pub record IsAlike (log : List Entry) (a : Stamped (Unit {0})) (b : Stamped Bool) : Type 0 where
    pub stamp : a.stamp ≡ b.stamp
    pub known : IsKnown (length input) (length log) b.stamp
    pub bit : b.bit ≡ bit_at input (written_by input [] log) b.stamp

  pub record IsAlikeClaim (log : List Entry) (a : Met (Unit {0})) (b : Met Bool) : Type 0 where
    pub claim : a.claim ≡ b.claim
    pub known : IsKnown (length input) (length log) b.claim.of
    pub bit : b.bit ≡ bit_at input (written_by input [] log) b.claim.of

  -- two states of the runs at the same point
  pub record AreAlike (s : State (Unit {0})) (t : State Bool) : Type 0 where
    pub log : s.log ≡ t.log
    pub work : s.work ≡ t.work
    pub known : AreKnown (length input) 0 t.log
    pub few_entries : length t.log ≤ 262144
    pub few_claims : length t.claims ≤ 4096
    pub store : Paired (OptionPaired (IsAlike t.log)) s.store t.store
    pub claims : Paired (IsAlikeClaim t.log) s.claims t.claims

  -- what is asked of the answers and states of two outcomes, which are stuck alike otherwise
  abbrev pub Answers : (A C : Type 0) → Type 1
  Answers A C = A → State (Unit {0}) → C → State Bool → Type 0

  abbrev pub Side : {A C : Type 0} → Answers A C → Outcome (Unit {0}) A → Outcome Bool C → Type 0
  Side R (stuck why at) (stuck reason place) = (why ≡ reason) × (at ≡ place)
  Side R (stuck why at) (went c t) = ⊥
  Side R (went a s) (stuck why at) = ⊥
  Side R (went a s) (went c t) = R a s c t

  pub record GoTogether {A C : Type 0} (R : Answers A C) (o : Outcome (Unit {0}) A) (p : Outcome Bool C) : Type 0 where
    pub side : Side R o p

  -- the same answer in states that are alike
  abbrev pub Same : {A : Type 0} → Answers A A
  Same a s c t = (a ≡ c) × AreAlike s t

  pub both_stuck : {A C : Type 0} {R : Answers A C} (why : Cause) (at : Place) → GoTogether R (stuck why at) (stuck why at)
  both_stuck why at = record { side = (refl, refl) }

  pub both_went : {A : Type 0} (a : A) {s : State (Unit {0})} {t : State Bool} → AreAlike s t → GoTogether Same (went a s) (went a t)
  both_went a h = record { side = (refl, h) }

  -- more is known of the answers
  pub answers : {A C : Type 0} (R Q : Answers A C) (o : Outcome (Unit {0}) A) (p : Outcome Bool C)
      → ((a : A) (s : State (Unit {0})) (c : C) (t : State Bool) → R a s c t → Q a s c t) → GoTogether R o p → GoTogether Q o p
  answers R Q (stuck why at) (stuck reason place) f h = record { side = h.side }
  answers R Q (stuck why at) (went c t) f h = absurd h.side
  answers R Q (went a s) (stuck why at) f h = absurd h.side
  answers R Q (went a s) (went c t) f h = record { side = f a s c t h.side }

  pub next_with : {A C A' C' : Type 0} (R : Answers A C) {Q : Answers A' C'} (o : Outcome (Unit {0}) A) (p : Outcome Bool C)
      {k : A → State (Unit {0}) → Outcome (Unit {0}) A'} {m : C → State Bool → Outcome Bool C'}
      → GoTogether R o p → ((a : A) (s : State (Unit {0})) (c : C) (t : State Bool) → R a s c t → GoTogether Q (k a s) (m c t))
      → GoTogether Q (after o k) (after p m)
  next_with R (stuck why at) (stuck reason place) h f = record { side = h.side }
  next_with R (stuck why at) (went c t) h f = absurd h.side
  next_with R (went a s) (stuck why at) h f = absurd h.side
  next_with R (went a s) (went c t) h f = f a s c t h.side

  pub next : {A A' C' : Type 0} {Q : Answers A' C'} {o : Outcome (Unit {0}) A} {p : Outcome Bool A}
      {k : A → State (Unit {0}) → Outcome (Unit {0}) A'} {m : A → State Bool → Outcome Bool C'}
      → GoTogether Same o p → ((a : A) (s : State (Unit {0})) (t : State Bool) → AreAlike s t → GoTogether Q (k a s) (m a t))
      → GoTogether Q (after o k) (after p m)
  next {Q = Q} {o} {p} {k} {m} h f = next_with Same o p h (λ a s c t r. subst (λ x. GoTogether Q (k a s) (m x t)) r.0 (f a s t r.1))

  pub both_provided : {A C : Type 0} {R : Answers A C} {o : Outcome (Unit {0}) A} {p : Outcome Bool C} (b c : Bool) (why : Cause) (at : Place)
      → b ≡ c → (c ≡ true → GoTogether R o p) → GoTogether R (provided b why at o) (provided c why at p)
  both_provided true true why at e f = f refl
  both_provided false false why at e f = both_stuck why at
  both_provided true false why at e f = cc
  both_provided false true why at e f = cc

  -- ---- locations, writes and work

  pub both_worked : (count : ℕ) (at : Place) {s : State (Unit {0})} {t : State Bool} → AreAlike s t
      → GoTogether Same (worked no_bits count at s) (worked real_bits count at t)
  both_worked count at {s} {t} h =
      both_provided (leb (s.work + count) 16777216) (leb (t.work + count) 16777216) _ at (ap (λ w. leb (w + count) 16777216) h.work) (λ fits.
      both_went tt (record {
        log = h.log;
        work = ap
            (λ w. w + count) h.work;
        known = h.known;
        few_entries = h.few_entries;
        few_claims = h.few_claims;
        store = h.store;
        claims = h.claims;
      }))

  pub both_registered : (locations : List ℕ) (at : Place) {s : State (Unit {0})} {t : State Bool} → AreAlike s t
      → GoTogether Same (registered no_bits locations at s) (registered real_bits locations at t)
  both_registered locations at h = next (both_worked (length locations) at h) (λ _ s t h. both_went (register locations) h)

  IsAlike-push : (log : List Entry) (e : Entry) (a : Stamped (Unit {0})) (b : Stamped Bool) → IsAlike log a b → IsAlike (log ++ e ∷ []) a b
  IsAlike-push log e a b h =
      let longer : length (log ++ e ∷ []) ≡ length log + 1 = length-append log (e ∷ []) in
      record {
        stamp = h.stamp;
        known = IsKnown-later (length input) (length log) (length (log ++ e ∷ [])) b.stamp (omega arith) h.known;
        bit = h.bit ∙ sym (bit_at-push (length input) input log e b.stamp h.known);
      }

  IsAlikeClaim-push : (log : List Entry) (e : Entry) (a : Met (Unit {0})) (b : Met Bool) → IsAlikeClaim log a b → IsAlikeClaim (log ++ e ∷ []) a b
  IsAlikeClaim-push log e a b h =
      let longer : length (log ++ e ∷ []) ≡ length log + 1 = length-append log (e ∷ []) in
      record {
        claim = h.claim;
        known = IsKnown-later (length input) (length log) (length (log ++ e ∷ [])) b.claim.of (omega arith) h.known;
        bit = h.bit ∙ sym (bit_at-push (length input) input log e b.claim.of h.known);
      }

  newest : (log : List Entry) (n : ℕ) (e : Entry) (b : Bool) → n ≡ length log → b ≡ entry_bit input (written_by input [] log) e
      → IsAlike (log ++ e ∷ []) (record { bit = tt; stamp = refs.Write n }) (record { bit = b; stamp = refs.Write (length log) })
  newest log n e b same h =
      let longer : length (log ++ e ∷ []) ≡ length log + 1 = length-append log (e ∷ []) in
      record { stamp = ap refs.Write same; known = omega arith; bit = h ∙ sym (bit_at-newest input log e) }

  pub both_written : (e f : Entry) (b : Bool) (at : Place) {s : State (Unit {0})} {t : State Bool} → AreAlike s t
      → e ≡ f → IsKnownEntry (length input) (length t.log) f → b ≡ entry_bit input (written_by input [] t.log) f
      → GoTogether Same (written no_bits e tt at s) (written real_bits f b at t)
  both_written e f b at {s} {t} h same known written_bit =
      let longer : length (t.log ++ f ∷ []) ≡ length t.log + 1 = length-append t.log (f ∷ []) in
      both_provided (leb (length s.log + 1) 262144) (leb (length t.log + 1) 262144) _ at (ap (λ l. leb (length l + 1) 262144) h.log) (λ fits.
      let few : length t.log + 1 ≤ 262144 = leb-true (length t.log + 1) 262144 fits in
      record {
        side = (
          same_length (OptionPaired (IsAlike t.log)) s.store t.store h.store,
          record {
            log = ap (λ l. l ++ e ∷ []) h.log ∙ ap (λ x. t.log ++ x ∷ []) same;
            work = h.work;
            known = AreKnown-push (length input) 0 t.log f h.known (subst (λ n. IsKnownEntry (length input) n f) (omega arith) known);
            few_entries = omega arith;
            few_claims = h.few_claims;
            store = pushed (OptionPaired (IsAlike (t.log ++ f ∷ []))) s.store t.store
                (Some (record { bit = tt; stamp = refs.Write (length s.log) })) (Some (record { bit = b; stamp = refs.Write (length t.log) }))
                (weaker (OptionPaired (IsAlike t.log)) (OptionPaired (IsAlike (t.log ++ f ∷ []))) s.store t.store
                (λ x y. option_weaker (IsAlike t.log) (IsAlike (t.log ++ f ∷ [])) x y (IsAlike-push t.log f)) h.store)
                (newest t.log (length s.log) f b (ap length h.log) written_bit);
            claims = weaker (IsAlikeClaim t.log) (IsAlikeClaim (t.log ++ f ∷ [])) s.claims t.claims (IsAlikeClaim-push t.log f) h.claims;
          },
        );
      })

  -- what a location holds, for the steps behind it
  found_held : {A C : Type 0} {Q : Answers A C} (x : Option (Option (Stamped (Unit {0})))) (y : Option (Option (Stamped Bool))) (at : Place)
      (s : State (Unit {0})) (t : State Bool)
      (k : Stamped (Unit {0}) → State (Unit {0}) → Outcome (Unit {0}) A) (m : Stamped Bool → State Bool → Outcome Bool C)
      → OptionPaired (OptionPaired (IsAlike t.log)) x y
      → ((a : Stamped (Unit {0})) (b : Stamped Bool) → IsAlike t.log a b → GoTogether Q (k a s) (m b t))
      → GoTogether Q (after (elim x [ None ↦ stuck causes.Gone at | Some held ↦ elim held [ None ↦ stuck causes.Gone at | Some b ↦ went b s ] ]) k)
      (after (elim y [ None ↦ stuck causes.Gone at | Some held ↦ elim held [ None ↦ stuck causes.Gone at | Some b ↦ went b t ] ]) m)
  found_held None None at s t k m h f = both_stuck causes.Gone at
  found_held None (Some y) at s t k m h f = absurd h
  found_held (Some x) None at s t k m h f = absurd h
  found_held (Some None) (Some None) at s t k m h f = both_stuck causes.Gone at
  found_held (Some None) (Some (Some b)) at s t k m h f = absurd h
  found_held (Some (Some a)) (Some None) at s t k m h f = absurd h
  found_held (Some (Some a)) (Some (Some b)) at s t k m h f = f a b h

  pub both_read : {A C : Type 0} {Q : Answers A C} (location : ℕ) (at : Place) {s : State (Unit {0})} {t : State Bool}
      (k : Stamped (Unit {0}) → State (Unit {0}) → Outcome (Unit {0}) A) (m : Stamped Bool → State Bool → Outcome Bool C) → AreAlike s t
      → ((a : Stamped (Unit {0})) (b : Stamped Bool) → IsAlike t.log a b → GoTogether Q (k a s) (m b t))
      → GoTogether Q (after (read no_bits location at s) k) (after (read real_bits location at t) m)
  both_read location at {s} {t} k m h f =
      found_held (slice_get s.store location) (slice_get t.store location) at s t k m
      (found (OptionPaired (IsAlike t.log)) s.store t.store location h.store) f

  both_as_bit : (at : Place) (value : Value) {s : State (Unit {0})} {t : State Bool} → AreAlike s t
      → GoTogether Same (as_bit no_bits at value s) (as_bit real_bits at value t)
  both_as_bit at (bit location) h = both_went location h
  both_as_bit at _ h = both_stuck _ at

  both_as_register : (at : Place) (value : Value) {s : State (Unit {0})} {t : State Bool} → AreAlike s t
      → GoTogether Same (as_register no_bits at value s) (as_register real_bits at value t)
  both_as_register at (register locations) h = both_went locations h
  both_as_register at _ h = both_stuck _ at

  -- ---- numbers and parts of registers

  both_given : {A : Type 0} (x : Option A) (why : Cause) (at : Place) {s : State (Unit {0})} {t : State Bool} → AreAlike s t
      → GoTogether Same (given x why at s) (given x why at t)
  both_given None why at h = both_stuck why at
  both_given (Some answer) why at h = both_went answer h

  both_as_number : (at : Place) (value : Value) {s : State (Unit {0})} {t : State Bool} → AreAlike s t
      → GoTogether Same (as_number no_bits at value s) (as_number real_bits at value t)
  both_as_number at (number k) h = both_went k h
  both_as_number at _ h = both_stuck _ at

  both_unit_of : (env : Environment) (v : u.Unit) {s : State (Unit {0})} {t : State Bool} → AreAlike s t
      → GoTogether Same (unit_of no_bits env v s) (unit_of real_bits env v t)
  both_unit_of env (units.Digits value at) h = both_went (pos value) h
  both_unit_of env (units.Name name) h = both_as_number name.at (value_at env name.back) h

  both_summed : (env : Environment) (sum : ℤ) (p : Step) {s : State (Unit {0})} {t : State Bool} → AreAlike s t
      → GoTogether Same (summed no_bits env sum p s) (summed real_bits env sum p t)
  both_summed env sum p h =
      next (both_unit_of env p.unit h) (λ k s t h. both_provided (is_number (moved p.minus sum k)) _ causes.Range (unit_place p.unit) refl
      (λ fits. both_went (moved p.minus sum k) h))

  both_more_of : (env : Environment) (sum : ℤ) (ps : List Step) {s : State (Unit {0})} {t : State Bool} → AreAlike s t
      → GoTogether Same (more_of no_bits env sum ps s) (more_of real_bits env sum ps t)
  both_more_of env sum [] h = both_went sum h
  both_more_of env sum (p ∷ ps) h =
      next (both_worked 1 (unit_place p.unit) h) (λ _ s t h. next (both_summed env sum p h) (λ more s t h. both_more_of env more ps h))

  both_number_of : (env : Environment) (ps : List Step) {s : State (Unit {0})} {t : State Bool} → AreAlike s t
      → GoTogether Same (number_of no_bits env ps s) (number_of real_bits env ps t)
  both_number_of env [] h = both_went (pos 0) h
  both_number_of env (p ∷ ps) h = next (both_summed env (pos 0) p h) (λ first s t h. both_more_of env first ps h)

  both_part_of : (env : Environment) (whole : Place) (p : Part) (value : Value) {s : State (Unit {0})} {t : State Bool} → AreAlike s t
      → GoTogether Same (part_of no_bits env whole p value s) (part_of real_bits env whole p value t)
  both_part_of env whole (part.Index i at) value h =
      next (both_as_register at value h) (λ r s t h. next (both_number_of env i h) (λ k s t h.
      next (both_given (element r k) causes.Index at h) (λ location s t h. both_went (bit location) h)))
  both_part_of env whole (part.Slice i j at) value h =
      next (both_as_register at value h) (λ r s t h. next (both_number_of env i h) (λ first s t h.
      next (both_number_of env j h) (λ last s t h.
      next (both_given (places r first last) causes.Slice at h) (λ some s t h. both_registered some whole h))))

  both_parts_of : (env : Environment) (whole : Place) (ps : List Part) (value : Value) {s : State (Unit {0})} {t : State Bool} → AreAlike s t
      → GoTogether Same (parts_of no_bits env whole ps value s) (parts_of real_bits env whole ps value t)
  both_parts_of env whole [] value h = both_went value h
  both_parts_of env whole (p ∷ ps) value h = next (both_part_of env whole p value h) (λ value s t h. both_parts_of env whole ps value h)

  -- ---- the forms of terms, with runs of a term one deeper that go together

  module _ (d : Environment → Tree → State (Unit {0}) → Outcome (Unit {0}) Value) (e : Environment → Tree → State Bool → Outcome Bool Value)
      (deeper : (env : Environment) (u : Tree) (s : State (Unit {0})) (t : State Bool) → AreAlike s t → GoTogether Same (d env u s) (e env u t)) where
    both_bit_of : (env : Environment) (u : Tree) {s : State (Unit {0})} {t : State Bool} → AreAlike s t
        → GoTogether Same (bit_of no_bits d env u s) (bit_of real_bits e env u t)
    both_bit_of env u h = next (deeper env u _ _ h) (λ value s t h. both_as_bit (place_of u) value h)

    both_bits_of : (env : Environment) (us : List Tree) {s : State (Unit {0})} {t : State Bool} → AreAlike s t
        → GoTogether Same (bits_of no_bits d env us s) (bits_of real_bits e env us t)
    both_bits_of env [] h = both_went [] h
    both_bits_of env (u ∷ us) h =
        next (both_bit_of env u h) (λ first s t h. next (both_bits_of env us h) (λ more s t h. both_went (first ∷ more) h))

    both_items_run : (env : Environment) (items : List ItemTree) {s : State (Unit {0})} {t : State Bool} → AreAlike s t
        → GoTogether Same (items_run no_bits d env items s) (items_run real_bits e env items t)
    both_items_run env [] h = both_went env h
    both_items_run env (bind name u ∷ items) h =
        next (deeper env u _ _ h) (λ value s t h. next (both_worked (bound_length value) (place_of u) h)
        (λ _ s t h. both_items_run (bound value env) items h))
    both_items_run env (run u ∷ items) h = next (deeper env u _ _ h) (λ _ s t h. both_items_run env items h)

    both_turns_of : (env : Environment) (items : List ItemTree) (at : Place) (k : ℤ) (count : ℕ) {s : State (Unit {0})} {t : State Bool} → AreAlike s t
        → GoTogether Same (turns_of no_bits d env items at k count s) (turns_of real_bits e env items at k count t)
    both_turns_of env items at k zero h = both_went unit h
    both_turns_of env items at k (suc more) h =
        next (next (both_worked 1 at h) (λ _ s t h. both_items_run (bound (number k) env) items h))
        (λ _ s t h. both_turns_of env items at (k +ℤ pos 1) more h)

    both_apply_to : (at : Place) (head argument : Value) {s : State (Unit {0})} {t : State Bool} → AreAlike s t
        → GoTogether Same (apply_to no_bits d at head argument s) (apply_to real_bits e at head argument t)
    both_apply_to at unit argument h = both_stuck _ at
    both_apply_to at (bit location) argument h = both_stuck _ at
    both_apply_to at (register locations) argument h = both_stuck _ at
    both_apply_to at (number k) argument h = both_stuck _ at
    both_apply_to at (closure [] body env) argument h = both_stuck _ at
    both_apply_to at (closure (name ∷ []) body env) argument h =
        next (both_worked (bound_length argument) at h) (λ _ s t h. deeper (bound argument env) body s t h)
    both_apply_to at (closure (name ∷ more ∷ names) body env) argument h =
        next (both_worked (bound_length argument) at h) (λ _ s t h. both_went (closure (more ∷ names) body (bound argument env)) h)

    both_apply_all : (env : Environment) (us : List Tree) (head : Value) {s : State (Unit {0})} {t : State Bool} → AreAlike s t
        → GoTogether Same (apply_all no_bits d env us head s) (apply_all real_bits e env us head t)
    both_apply_all env [] head h = both_went head h
    both_apply_all env (u ∷ us) head h =
        next (deeper env u _ _ h) (λ argument s t h. next (both_apply_to (place_of u) head argument h) (λ head s t h. both_apply_all env us head h))

    left_alike : (log : List Entry) (kind : Kind) (location : ℕ) (xs : List (Option (Stamped (Unit {0})))) (ys : List (Option (Stamped Bool)))
        → Paired (OptionPaired (IsAlike log)) xs ys
        → Paired (OptionPaired (IsAlike log)) (left_by no_bits kind location xs) (left_by real_bits kind location ys)
    left_alike log kinds.Clean location xs ys h = stored (OptionPaired (IsAlike log)) xs ys location None None h tt
    left_alike log kinds.Assert location xs ys h = h

    both_claimed : (kind : Kind) (env : Environment) (u : Tree) (at : Place) {s : State (Unit {0})} {t : State Bool} → AreAlike s t
        → GoTogether Same (claimed no_bits d kind env u at s) (claimed real_bits e kind env u at t)
    both_claimed kind env u at h =
        next (both_bit_of env u h) (λ location s t h. both_read location (place_of u) _ _ h (λ a b alike.
        let count : length s.claims ≡ length t.claims = same_length (IsAlikeClaim t.log) s.claims t.claims h.claims in
        both_provided (leb (length s.claims + 1) 4096) (leb (length t.claims + 1) 4096) causes.Claims at (ap (λ n. leb (n + 1) 4096) count) (λ fits.
        let noted : Claim = record { kind = kind; of = a.stamp; at = at } in
        let met : Claim = record { kind = kind; of = b.stamp; at = at } in
        let few : length t.claims + 1 ≤ 4096 = leb-true (length t.claims + 1) 4096 fits in
        let longer : length (t.claims ++ record { claim = met; bit = b.bit } ∷ []) ≡ length t.claims + 1 = length-append t.claims
        (record { claim = met; bit = b.bit } ∷ []) in
        both_went unit (record {
          log = h.log;
          work = h.work;
          known = h.known;
          few_entries = h.few_entries;
          few_claims = omega arith;
          store = left_alike t.log kind location s.store t.store h.store;
          claims = pushed (IsAlikeClaim t.log) s.claims t.claims (record { claim = noted; bit = tt }) (record { claim = met; bit = b.bit }) h.claims
              (record { claim = ap (λ (r : Ref). record { kind = kind; of = r; at = at }) alike.stamp; known = alike.known; bit = alike.bit });
        }))))

    -- an operator of two bits, with the entry that it writes
    record IsOperator (entry : Ref → Ref → Entry) (op : Bool → Bool → Bool) : Type 0 where
      known : (k : ℕ) (a b : Ref) → IsKnown (length input) k a → IsKnown (length input) k b → IsKnownEntry (length input) k (entry a b)
      bit : (written : List Bool) (a b : Ref) → op (bit_at input written a) (bit_at input written b) ≡ entry_bit input written (entry a b)

    both_chain_of : (entry : Ref → Ref → Entry) (op : Bool → Bool → Bool) → IsOperator entry op
        → (env : Environment) (first : Place) (so_far : ℕ) (us : List Tree) {s : State (Unit {0})} {t : State Bool} → AreAlike s t
        → GoTogether Same (chain_of no_bits d entry (λ a b. tt) env first so_far us s) (chain_of real_bits e entry op env first so_far us t)
    both_chain_of entry op o env first so_far [] h = both_went (bit so_far) h
    both_chain_of entry op o env first so_far (u ∷ us) h =
        next (both_bit_of env u h) (λ more s t h. both_read so_far first _ _ h (λ a x left. both_read more (place_of u) _ _ h (λ b y right.
        next (both_written (entry a.stamp b.stamp) (entry x.stamp y.stamp) (op x.bit y.bit) (place_of u) h
        (ap (λ r. entry r b.stamp) left.stamp ∙ ap (entry x.stamp) right.stamp)
        (o.known (length t.log) x.stamp y.stamp left.known right.known)
        (ap (λ c. op c y.bit) left.bit ∙ ap (op (bit_at input (written_by input [] t.log) x.stamp)) right.bit ∙ o.bit
        (written_by input [] t.log) x.stamp y.stamp))
        (λ made s t h. both_chain_of entry op o env first made us h))))

    both_chain : (entry : Ref → Ref → Entry) (op : Bool → Bool → Bool) → IsOperator entry op
        → (env : Environment) (us : List Tree) {s : State (Unit {0})} {t : State Bool} → AreAlike s t
        → GoTogether Same (chain no_bits d entry (λ a b. tt) env us s) (chain real_bits e entry op env us t)
    both_chain entry op o env [] h = both_went unit h
    both_chain entry op o env (u ∷ us) h = next (both_bit_of env u h) (λ first s t h. both_chain_of entry op o env (place_of u) first us h)

    is_and : IsOperator entries.And (◌&&◌)
    is_and = record { known = λ k a b p q. (p, q); bit = λ written a b. refl }

    is_xor : IsOperator entries.Xor xor
    is_xor = record { known = λ k a b p q. (p, q); bit = λ written a b. refl }

    both_term_of : (env : Environment) (u : Tree) {s : State (Unit {0})} {t : State Bool} → AreAlike s t
        → GoTogether Same (term_of no_bits d env u s) (term_of real_bits e env u t)
    both_term_of env (used name) h = both_went (value_at env name.back) h
    both_term_of env (bool b at) h = next (both_written (entries.Const b) (entries.Const b) b at h refl tt refl) (λ made s t h. both_went (bit made) h)
    both_term_of env (reg us at) h =
        next (both_bits_of env (list_of us) h) (λ locations s t h. both_provided (leb (length locations) 4096) _ causes.Length at refl
        (λ fits. both_registered locations at h))
    both_term_of env (block items last at) h = next (both_items_run env (items_of items) h) (λ inner s t h. deeper inner last s t h)
    both_term_of env (loop name a b items at) h =
        next (both_number_of env a h) (λ first s t h. next (both_number_of env b h)
        (λ last s t h. both_turns_of env (items_of items) at first (turns first last) h))
    both_term_of env (function names body at) h = both_went (closure names body env) h
    both_term_of env (parts base ps) h = next (deeper env base _ _ h) (λ value s t h. both_parts_of env (place_of base) ps value h)
    both_term_of env (apply head us) h = next (deeper env head _ _ h) (λ value s t h. both_apply_all env (list_of us) value h)
    both_term_of env (append u v at) h =
        next (deeper env u _ _ h) (λ x s t h. next (deeper env v _ _ h) (λ y s t h.
        next (both_as_register (place_of u) x h) (λ r s t h. next (both_as_register (place_of v) y h) (λ q s t h.
        both_provided (leb (length r + length q) 4096) _ causes.Length at refl (λ fits. both_registered (r ++ q) at h)))))
    both_term_of env (rotate i u at) h =
        next (both_number_of env i h) (λ k s t h. next (deeper env u _ _ h)
        (λ x s t h. next (both_as_register (place_of u) x h) (λ r s t h.
        next (both_given (turned r k) causes.Rotate at h) (λ all s t h. both_registered all at h))))
    both_term_of env (clean u at) h = both_claimed kinds.Clean env u at h
    both_term_of env (assert u at) h = both_claimed kinds.Assert env u at h
    both_term_of env (ands us) h = both_chain entries.And (◌&&◌) is_and env (list_of us) h
    both_term_of env (xors us) h = both_chain entries.Xor xor is_xor env (list_of us) h
    both_term_of env (assign left right) h =
        next (both_bit_of env left h) (λ to s t h. next (both_bit_of env right h) (λ from s t h.
        both_read to (place_of left) _ _ h (λ _ _ _. both_read from (place_of right) _ _ h (λ a b alike.
        both_went unit (record {
          log = h.log;
          work = h.work;
          known = h.known;
          few_entries = h.few_entries;
          few_claims = h.few_claims;
          claims = h.claims;
          store = stored (OptionPaired (IsAlike t.log)) s.store t.store to (Some a) (Some b) h.store alike;
        })))))

  -- a term, at each depth
  pub both_run_of : (left : ℕ) (env : Environment) (u : Tree) (s : State (Unit {0})) (t : State Bool) → AreAlike s t
      → GoTogether Same (run_of no_bits left env u s) (run_of real_bits left env u t)
  both_run_of zero env u s t h = both_stuck _ (place_of u)
  both_run_of (suc left) env u s t h =
      next (both_worked 1 (place_of u) h) (λ _ s t h. both_term_of (run_of no_bits left) (run_of real_bits left) (both_run_of left) env u h)

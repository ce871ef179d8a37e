-- What each write to the machine does to the state of the run.
use Rattle.std.proofs.Common.{◌≡◌, ℕ, ◌+◌, ◌≤◌, ◌<◌, leb, true, Option, Some, None, List, [], ◌∷◌, ◌++◌, length}
use Rattle.std.proofs.Common.{map, sum, slice_set, length-append, arith, refl, sym, ap, ◌∙◌, subst}
use Rattle.std.specs.List.{AllByRecursion}
use Rattle.std.proofs.lemmas.List.{map-set, length-set, map-append, length-map}
use Rattle.std.proofs.lemmas.Bool.Decides.{nat_tests}
use Rattle.revc_base.specs.declared.place.Place.{Place}
use Rattle.revs_tape.specs.declared.tape.Ref.{Ref}
use Rattle.revs_tape.specs.declared.tape.Ref.TheVariants as refs
use Rattle.revs_tape.specs.declared.tape.Entry.{Entry}
use Rattle.revs_tape.specs.declared.tape.Kind.{Kind}
use Rattle.revs_tape.specs.declared.tape.Kind.TheVariants as kinds
use Rattle.revs_tape.specs.declared.tape.Claim.{Claim}
use Rattle.revs_tape.specs.Tapes.{TapeView, IsKnown}
use Rattle.list_facts.proofs.AllLemmas.{AllByRecursion-push, AllByRecursion-set, AllByRecursion-weaker}
use Rattle.revs_tape.proofs.TapeLemmas.{IsKnown-later}
use Rattle.revs_terms.specs.Running.{Stamped, Met, went, read, unit, left_by, written, assigned, claim_on}
use Rattle.revs_terms.specs.Runs.{no_bits}
use Rattle.array_shapes.specs.declared.value.Value.TheVariants as variants
use Rattle.revs_run.specs.declared.machine.Machine.{Machine}
use Rattle.revs_run.specs.inside.Machines.{held_by, met_by, state_of, AreBindings, AreLeaps, IsKnownIn, IsMachine, Does, Goes}
use Rattle.revs_run.proofs.FaultLemmas.{goes_on}
use Rattle.revs_run.proofs.EnvironmentLemmas.{grows_same}

pub state_is : (now : Machine) (store : List (Option (Stamped (Unit {0})))) (log : List Entry) (claims : List (Met (Unit {0}))) (work : ℕ)
    → map held_by now.store.items ≡ store → now.tape.entries ≡ log → map met_by now.tape.claims ≡ claims → now.work ≡ work
    → state_of now ≡ record { store = store; log = log; claims = claims; work = work }
state_is now store log claims work e f g h = cc

-- ---- a location takes a bit

pub assigned_goes : (old now : Machine) (to from : ℕ) (left right : Place) (was made : Ref)
    → now.bindings.items ≡ old.bindings.items → now.store.items ≡ slice_set old.store.items to (Some made) → now.tape ≡ old.tape → now.work ≡ old.work
    → read no_bits to left (state_of old) ≡ went (record { bit = tt; stamp = was }) (state_of old)
    → read no_bits from right (state_of old) ≡ went (record { bit = tt; stamp = made }) (state_of old)
    → IsKnown (sum old.tape.params) (length old.tape.entries) made → IsMachine old
    → Goes old now (assigned no_bits to from left right (state_of old)) variants.Unit
assigned_goes old now to from left right was made b s t w first second known is =
    let state : state_of now ≡ record (state_of old) { store = slice_set (map held_by old.store.items) to (held_by (Some made)) } =
    state_is now _ _ _ _ (ap (map held_by) s ∙ map-set held_by old.store.items to (Some made)) (ap (λ (x : TapeView). x.entries) t)
    (ap (λ (x : TapeView). map met_by x.claims) t) w in
    record {
      does = record {
        goes = goes_on _ _ _ _ _ first (goes_on _ _ _ _ _ second (ap (went unit) (sym state)));
        grows = grows_same old now b (ap (λ (x : TapeView). x.params) t);
        kept = record {
          made = subst (AreBindings 0) (sym b) is.made;
          leaps = subst (AreLeaps []) (sym b) is.leaps;
          known = rw (s, t) (AllByRecursion-set (IsKnownIn old.tape) old.store.items to (Some made) is.known known);
          few = rw (s, t, length-set old.store.items to (Some made)) is.few;
          within = rw w is.within;
          room = rw (b, w) is.room;
        };
        worked = omega (arith, ap length b, w);
      };
      made = record { made = tt };
    }

-- ---- a claim is noted

claimed_state : (old now : Machine) (kind : Kind) (location : ℕ) (operand at : Place) (of : Ref) (store : List (Option Ref))
    → now.bindings.items ≡ old.bindings.items → now.store.items ≡ store
    → now.tape ≡ record old.tape { claims = old.tape.claims ++ record { kind = kind; of = of; at = at } ∷ [] } → now.work ≡ old.work
    → left_by no_bits kind location (map held_by old.store.items) ≡ map held_by store
    → read no_bits location operand (state_of old) ≡ went (record { bit = tt; stamp = of }) (state_of old)
    → length old.tape.claims < 4096
    → claim_on no_bits kind location operand at (state_of old) ≡ went unit (state_of now)
claimed_state old now kind location operand at of store b s t w left first room =
    let few : leb (length (map met_by old.tape.claims) + 1) 4096 ≡ true = grind (arith, length-map, nat_tests) in
    goes_on _ _ _ _ _ first (rw few (ap (went unit) (sym (state_is now _ _ _ _ (ap (map held_by) s ∙ sym left) (ap (λ (x : TapeView). x.entries) t)
    (ap (λ (x : TapeView). map met_by x.claims) t ∙ map-append met_by old.tape.claims (record { kind = kind; of = of; at = at } ∷ [])) w))))

-- the machine where a claim was noted
claimed_kept : (old now : Machine) (store : List (Option Ref)) (claims : List Claim)
    → now.bindings.items ≡ old.bindings.items → now.store.items ≡ store → now.tape ≡ record old.tape { claims = claims } → now.work ≡ old.work
    → length store ≡ length old.store.items → AllByRecursion (IsKnownIn old.tape) store → IsMachine old → IsMachine now
claimed_kept old now store claims b s t w long known is = record {
  made = subst (AreBindings 0) (sym b) is.made;
  leaps = subst (AreLeaps []) (sym b) is.leaps;
  known = rw (s, t) known;
  few = rw (s, t, long) is.few;
  within = rw w is.within;
  room = rw (b, w) is.room;
}

pub asserted : (old now : Machine) (kind : Kind) (location : ℕ) (operand at : Place) (of : Ref)
    → ¬ (kind ≡ kinds.Clean)
    → now.bindings.items ≡ old.bindings.items → now.store.items ≡ old.store.items
    → now.tape ≡ record old.tape { claims = old.tape.claims ++ record { kind = kind; of = of; at = at } ∷ [] } → now.work ≡ old.work
    → read no_bits location operand (state_of old) ≡ went (record { bit = tt; stamp = of }) (state_of old)
    → length old.tape.claims < 4096 → IsMachine old
    → Goes old now (claim_on no_bits kind location operand at (state_of old)) variants.Unit
asserted old now kinds.Clean location operand at of h b s t w first room is = absurd (h refl)
asserted old now kinds.Assert location operand at of h b s t w first room is = record {
  does = record {
    goes = claimed_state old now kinds.Assert location operand at of old.store.items b s t w refl first room;
    grows = grows_same old now b (ap (λ (x : TapeView). x.params) t);
    kept = claimed_kept old now old.store.items _ b s t w refl is.known is;
    worked = omega (arith, ap length b, w);
  };
  made = record { made = tt };
}

pub cleaned : (old now : Machine) (kind : Kind) (location : ℕ) (operand at : Place) (of : Ref)
    → kind ≡ kinds.Clean
    → now.bindings.items ≡ old.bindings.items → now.store.items ≡ slice_set old.store.items location None
    → now.tape ≡ record old.tape { claims = old.tape.claims ++ record { kind = kind; of = of; at = at } ∷ [] } → now.work ≡ old.work
    → read no_bits location operand (state_of old) ≡ went (record { bit = tt; stamp = of }) (state_of old)
    → length old.tape.claims < 4096 → IsMachine old
    → Goes old now (claim_on no_bits kind location operand at (state_of old)) variants.Unit
cleaned old now kinds.Assert location operand at of h b s t w first room is = cc
cleaned old now kinds.Clean location operand at of h b s t w first room is = record {
  does = record {
    goes = claimed_state old now kinds.Clean location operand at of (slice_set old.store.items location None) b s t w
        (sym (map-set held_by old.store.items location None)) first room;
    grows = grows_same old now b (ap (λ (x : TapeView). x.params) t);
    kept = claimed_kept old now (slice_set old.store.items location None) _ b s t w (length-set old.store.items location None)
        (AllByRecursion-set (IsKnownIn old.tape) old.store.items location None is.known tt) is;
    worked = omega (arith, ap length b, w);
  };
  made = record { made = tt };
}

-- ---- a write

IsKnownIn-later : (t u : TapeView) (held : Option Ref) → u.params ≡ t.params → length t.entries ≤ length u.entries → IsKnownIn t held → IsKnownIn u held
IsKnownIn-later t u None p le known = tt
IsKnownIn-later t u (Some r) p le known = rw p (IsKnown-later (sum t.params) (length t.entries) (length u.entries) r le known)

pub wrote : (old now : Machine) (entry : Entry) (at : Place) (made : ℕ) → made ≡ length old.store.items
    → now.bindings.items ≡ old.bindings.items → now.store.items ≡ old.store.items ++ Some (refs.Write (length old.tape.entries)) ∷ []
    → now.tape ≡ record old.tape { entries = old.tape.entries ++ entry ∷ [] } → now.work ≡ old.work
    → length old.tape.entries < 262144 → IsMachine old
    → Does old now (written no_bits entry tt at (state_of old)) made
wrote old now entry at made m b s t w room is =
    let few : leb (length old.tape.entries + 1) 262144 ≡ true = grind (arith, nat_tests) in
    let entries : now.tape.entries ≡ old.tape.entries ++ entry ∷ [] = ap (λ (x : TapeView). x.entries) t in
    let params : now.tape.params ≡ old.tape.params = ap (λ (x : TapeView). x.params) t in
    let longer : length now.tape.entries ≡ length old.tape.entries + 1 = ap length entries ∙ omega (arith, length-append old.tape.entries (entry ∷ [])) in
    record {
      goes = rw (few, m) (rw (length-map old.store.items held_by) (ap (went (length old.store.items)) (sym (state_is now _ _ _ _
          (ap (map held_by) s ∙ map-append held_by old.store.items (Some (refs.Write (length old.tape.entries)) ∷ [])) entries
          (ap (λ (x : TapeView). map met_by x.claims) t) w))));
      grows = grows_same old now b params;
      kept = record {
        made = subst (AreBindings 0) (sym b) is.made;
        leaps = subst (AreLeaps []) (sym b) is.leaps;
        known = rw s (AllByRecursion-push (IsKnownIn now.tape) old.store.items (Some (refs.Write (length old.tape.entries)))
            (AllByRecursion-weaker (IsKnownIn old.tape) (IsKnownIn now.tape) (λ held. IsKnownIn-later old.tape now.tape held params
            (omega arith)) old.store.items is.known)
            (omega (arith, longer)));
        few = rw s (omega (arith, longer, is.few, length-append old.store.items (Some (refs.Write (length old.tape.entries)) ∷ [])));
        within = rw w is.within;
        room = rw (b, w) is.room;
      };
      worked = omega (arith, ap length b, w);
    }

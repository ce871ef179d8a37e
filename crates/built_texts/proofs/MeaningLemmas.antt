-- Runs that go on, step by step, and what stays as they do.
use Rattle.std.proofs.Common.{◌≡◌, ℕ, zero, suc, ◌+◌, ◌≤◌, Bool, true, List, [], ◌∷◌, ◌++◌, length, Option, Some, None, refl, ap, ◌∙◌, arith}
use Rattle.std.specs.Prelude.{slice_get}
use Rattle.std.proofs.lemmas.Bool.{le-leb}
use Rattle.std.proofs.lemmas.List.{length-append}
use Rattle.revc_base.specs.declared.place.Place.{Place}
use Rattle.revs_tape.specs.declared.tape.Entry.{Entry}
use Rattle.revs_tape.specs.declared.tape.Ref.TheVariants as refs
use Rattle.revs_terms.specs.declared.cause.Cause.{Cause}
use Rattle.revs_terms.specs.declared.cause.Cause.TheVariants as causes
use Rattle.revs_terms.specs.Trees.{Tree}
use Rattle.revs_terms.specs.Terms.{place_of}
use Rattle.revs_terms.specs.Running.{Value, unit, bit, register, number, closure, Environment, nothing}
use Rattle.revs_terms.specs.Running.{bound, bound_length, Stamped, State, Outcome, stuck, went, after}
use Rattle.revs_terms.specs.Running.{provided, worked, written, read, term_of, run_of}
use Rattle.revs_terms.specs.Runs.{real_bits}
use Rattle.built_texts.specs.Meanings.{Meaning, Scope, of_bit, of_bits, of_function, no_names, named}
use Rattle.built_texts.specs.Meanings.{length_of, Holds, AreHeld, Agrees, AgreesIn, HasRoom, Grew}
use Rattle.built_texts.specs.Meanings.{Goes}

-- ---- outcomes

pub goes_on : {A : Type 0} {P : A → State Bool → Type 0} (a : A) (s : State Bool) → P a s → Goes P (went a s)
goes_on a s h = record { answer = a; state = s; is = refl; holds = h }

pub next : {A C : Type 0} {P : A → State Bool → Type 0} {Q : C → State Bool → Type 0} {o : Outcome Bool A} (k : A → State Bool → Outcome Bool C)
    → Goes P o → ((a : A) (s : State Bool) → P a s → Goes Q (k a s)) → Goes Q (after o k)
next k h f =
    let r = f h.answer h.state h.holds in
    record { answer = r.answer; state = r.state; is = ap (λ o. after o k) h.is ∙ r.is; holds = r.holds }

pub where_so : {A : Type 0} {P : A → State Bool → Type 0} {o : Outcome Bool A} (b : Bool) (why : Cause) (at : Place) → b ≡ true → Goes P o
    → Goes P (provided b why at o)
where_so {o = o} b why at e h = record { answer = h.answer; state = h.state; is = ap (λ b. provided b why at o) e ∙ h.is; holds = h.holds }

pub such : {A : Type 0} {P Q : A → State Bool → Type 0} {o : Outcome Bool A} → Goes P o → ((a : A) (s : State Bool) → P a s → Q a s) → Goes Q o
such h f = record { answer = h.answer; state = h.state; is = h.is; holds = f h.answer h.state h.holds }

-- ---- growth

pub stays : (s : State Bool) → Grew s s 0
stays s = record { kept = λ l held e. e; work = omega arith; writes = omega arith; claims = refl }

pub further : {s u v : State Bool} {j k n : ℕ} → Grew s u j → Grew u v k → j + k ≤ n → Grew s v n
further g h le = record {
  kept = λ l held e. h.kept l held (g.kept l held e);
  work = let a = g.work in let b = h.work in omega arith;
  writes = let a = g.writes in let b = h.writes in omega arith;
  claims = h.claims ∙ g.claims;
}

pub room : {s u : State Bool} {j k n : ℕ} → HasRoom s n → Grew s u j → j + k ≤ n → HasRoom u k
room r g le = record {
  work = let a = g.work in let b = r.work in omega arith;
  writes = let a = g.writes in let b = r.writes in omega arith;
}

pub less_room : {s : State Bool} {k n : ℕ} → HasRoom s n → k ≤ n → HasRoom s k
less_room r le = record { work = let b = r.work in omega arith; writes = let b = r.writes in omega arith }

-- ---- what stays

module _ (s u : State Bool) (kept : (l : ℕ) (held : Option (Stamped Bool)) → slice_get s.store l ≡ Some held → slice_get u.store l ≡ Some held) where
  holds_kept : (b : Bool) (l : ℕ) → Holds s.store b l → Holds u.store b l
  holds_kept b l h = record { stamped = h.stamped; there = kept l (Some h.stamped) h.there; is = h.is }

  held_kept : (bs : List Bool) (ls : List ℕ) → AreHeld s.store bs ls → AreHeld u.store bs ls
  held_kept [] [] h = tt
  held_kept [] (l ∷ ls) h = absurd h
  held_kept (b ∷ bs) [] h = absurd h
  held_kept (b ∷ bs) (l ∷ ls) h = (holds_kept b l h.0, held_kept bs ls h.1)

  mutual
    agrees_kept : (m : Meaning) (v : Value) → Agrees s.store m v → Agrees u.store m v
    agrees_kept (of_bit b) (bit l) h = holds_kept b l h
    agrees_kept (of_bit b) unit h = absurd h
    agrees_kept (of_bit b) (register ls) h = absurd h
    agrees_kept (of_bit b) (number k) h = absurd h
    agrees_kept (of_bit b) (closure names body env) h = absurd h
    agrees_kept (of_bits bs) (register ls) h = held_kept bs ls h
    agrees_kept (of_bits bs) unit h = absurd h
    agrees_kept (of_bits bs) (bit l) h = absurd h
    agrees_kept (of_bits bs) (number k) h = absurd h
    agrees_kept (of_bits bs) (closure names body env) h = absurd h
    agrees_kept (of_function names body sc) (closure others inner env) h = (h.0, h.1, scope_kept sc env h.2)
    agrees_kept (of_function names body sc) unit h = absurd h
    agrees_kept (of_function names body sc) (bit l) h = absurd h
    agrees_kept (of_function names body sc) (register ls) h = absurd h
    agrees_kept (of_function names body sc) (number k) h = absurd h

    scope_kept : (sc : Scope) (env : Environment) → AgreesIn s.store sc env → AgreesIn u.store sc env
    scope_kept no_names nothing h = tt
    scope_kept no_names (bound v env) h = absurd h
    scope_kept (named name m sc) nothing h = absurd h
    scope_kept (named name m sc) (bound v env) h = (agrees_kept m v h.0, scope_kept sc env h.1)

pub holds_on : {s u : State Bool} {k : ℕ} → Grew s u k → (b : Bool) (l : ℕ) → Holds s.store b l → Holds u.store b l
holds_on {s} {u} g b l h = holds_kept s u g.kept b l h

pub held_on : {s u : State Bool} {k : ℕ} → Grew s u k → (bs : List Bool) (ls : List ℕ) → AreHeld s.store bs ls → AreHeld u.store bs ls
held_on {s} {u} g bs ls h = held_kept s u g.kept bs ls h

pub agrees_on : {s u : State Bool} {k : ℕ} → Grew s u k → (m : Meaning) (v : Value) → Agrees s.store m v → Agrees u.store m v
agrees_on {s} {u} g m v h = agrees_kept s u g.kept m v h

pub scope_on : {s u : State Bool} {k : ℕ} → Grew s u k → (sc : Scope) (env : Environment) → AgreesIn s.store sc env → AgreesIn u.store sc env
scope_on {s} {u} g sc env h = scope_kept s u g.kept sc env h

-- a value counts the length of its meaning
pub length-held : (store : List (Option (Stamped Bool))) (bs : List Bool) (ls : List ℕ) → AreHeld store bs ls → length ls ≡ length bs
length-held store [] [] h = refl
length-held store [] (l ∷ ls) h = absurd h
length-held store (b ∷ bs) [] h = absurd h
length-held store (b ∷ bs) (l ∷ ls) h = ap suc (length-held store bs ls h.1)

pub length-agrees : (store : List (Option (Stamped Bool))) (m : Meaning) (v : Value) → Agrees store m v → bound_length v ≡ length_of m
length-agrees store (of_bit b) (bit l) h = refl
length-agrees store (of_bit b) unit h = absurd h
length-agrees store (of_bit b) (register ls) h = absurd h
length-agrees store (of_bit b) (number k) h = absurd h
length-agrees store (of_bit b) (closure names body env) h = absurd h
length-agrees store (of_bits bs) (register ls) h = length-held store bs ls h
length-agrees store (of_bits bs) unit h = absurd h
length-agrees store (of_bits bs) (bit l) h = absurd h
length-agrees store (of_bits bs) (number k) h = absurd h
length-agrees store (of_bits bs) (closure names body env) h = absurd h
length-agrees store (of_function names body sc) (closure others inner env) h = refl
length-agrees store (of_function names body sc) unit h = absurd h
length-agrees store (of_function names body sc) (bit l) h = absurd h
length-agrees store (of_function names body sc) (register ls) h = absurd h
length-agrees store (of_function names body sc) (number k) h = absurd h

-- ---- single steps

-- the work rises
pub works : (j : ℕ) (at : Place) (s : State Bool) {n : ℕ} → HasRoom s n → j ≤ n → Goes (λ _ u. Grew s u j) (worked real_bits j at s)
works j at s r le =
    where_so _ _ at (let b = r.work in le-leb (s.work + j) 16777216 (omega arith))
    (goes_on tt (record s { work = s.work + j }) (record { kept = λ l held e. e; work = omega arith; writes = omega arith; claims = refl }))

kept_push : {A : Type 0} (xs : List A) (y : A) (i : ℕ) (x : A) → slice_get xs i ≡ Some x → slice_get (xs ++ y ∷ []) i ≡ Some x
kept_push [] y i x e = cc
kept_push (z ∷ xs) y zero x e = e
kept_push (z ∷ xs) y (suc i) x e = kept_push xs y i x e

got_push : {A : Type 0} (xs : List A) (y : A) → slice_get (xs ++ y ∷ []) (length xs) ≡ Some y
got_push [] y = refl
got_push (x ∷ xs) y = got_push xs y

-- a bit is written
pub writes : (entry : Entry) (b : Bool) (at : Place) (s : State Bool) {n : ℕ} → HasRoom s n → 1 ≤ n
    → Goes (λ l u. Holds u.store b l × Grew s u 1) (written real_bits entry b at s)
writes entry b at s r le =
    let stamped : Stamped Bool = record { bit = b; stamp = refs.Write (length s.log) } in
    let one : length (s.log ++ entry ∷ []) ≡ length s.log + 1 = length-append s.log (entry ∷ []) in
    where_so _ _ at (let w = r.writes in le-leb (length s.log + 1) 262144 (omega arith))
    (goes_on (length s.store) (record s { store = s.store ++ Some stamped ∷ []; log = s.log ++ entry ∷ [] }) (
      record { stamped = stamped; there = got_push s.store (Some stamped); is = refl },
      record { kept = λ l held e. kept_push s.store (Some stamped) l held e; work = omega arith; writes = omega arith; claims = refl },
    ))

-- a bit is read
pub reads : (b : Bool) (l : ℕ) (at : Place) (s : State Bool) → Holds s.store b l → Goes (λ held u. (held.bit ≡ b) × (s ≡ u)) (read real_bits l at s)
reads b l at s h = record {
  answer = h.stamped;
  state = s;
  is = ap (λ (o : Option (Option (Stamped Bool))). elim o [
    | None ↦ stuck causes.Gone at
    | Some held ↦ elim held [ None ↦ stuck causes.Gone at | Some b ↦ went b s ]
  ]) h.there;
  holds = (h.is, refl);
}

-- a term is entered
pub enters : (d : ℕ) (env : Environment) (t : Tree) (s : State Bool) (k : ℕ) {P : Value → State Bool → Type 0} → HasRoom s (1 + k)
    → ((u : State Bool) → Grew s u 1 → HasRoom u k → Goes P (term_of real_bits (run_of real_bits d) env t u)) → Goes P (run_of real_bits (suc d) env t s)
enters d env t s k {P} r f =
    next (λ _ u. term_of real_bits (run_of real_bits d) env t u) (works 1 (place_of t) s r (omega arith)) (λ _ u g. f u g (room r g (omega arith)))

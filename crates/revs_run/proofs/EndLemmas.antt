-- The end of a program.
use Rattle.std.proofs.Common.{◌≡◌, ℕ, zero, suc, ◌+◌, ◌≤◌, ◌<◌, List, [], ◌∷◌, ◌++◌, length, map, refl, sym}
use Rattle.std.proofs.Common.{ap, ◌∙◌, subst, arith, length-append, append_assoc, sum, drop, get_or}
use Rattle.std.specs.List.{AllByRecursion}
use Rattle.std.proofs.lemmas.List.{append-nil, map-append}
use Rattle.revc_base.specs.declared.place.Place.{Place}
use Rattle.revs_tape.specs.declared.tape.Ref.{Ref}
use Rattle.revs_tape.specs.declared.tape.Claim.{Claim}
use Rattle.revs_tape.specs.Tapes.{TapeView, IsKnown}
use Rattle.list_facts.proofs.AllLemmas.{AllByRecursion-push}
use Rattle.revs_terms.specs.declared.program.Param.{Param}
use Rattle.revs_terms.specs.Programs.{widths_of}
use Rattle.revs_terms.specs.Terms.{place_of}
use Rattle.revs_terms.specs.Trees.{Tree}
use Rattle.revs_terms.specs.Running as runs
use Rattle.revs_terms.specs.Running.{Environment, nothing, Stamped, State, Outcome, went, after, read, run_of}
use Rattle.revs_terms.specs.Runs.{start, nothings, params_in, no_bits, read_all, tape_of, run_without_bits, IsTapeOf}
use Rattle.array_shapes.specs.declared.value.Value.{Value}
use Rattle.revs_run.specs.declared.fault.RunFault.{RunFault}
use Rattle.revs_run.specs.declared.fault.RunFault.TheVariants as faults
use Rattle.revs_run.specs.declared.machine.Machine.{Machine}
use Rattle.revs_run.specs.Faults.{IsStuckOnAll, IsRefused}
use Rattle.revs_terms.specs.Terms.{is_formed}
use Rattle.revs_terms.specs.Programs.{AreParams}
use Rattle.revs_terms.proofs.BitlessTapeLemmas.{same_for_all, writes_few}
use Rattle.revs_terms.proofs.OutputLemmas.{has_outputs}
use Rattle.std.specs.Prelude.{IsTrue}
use Rattle.std.proofs.lemmas.List.{length-map}
use Rattle.revs_run.specs.inside.Machines.{met_by, env_in, value_in, envs_of, state_of, Goes, Grows}
use Rattle.revs_run.specs.inside.Starts.{stamped, Reads, Ends, Outputs, body_step, outputs_step, IsStart}
use Rattle.revs_run.proofs.FaultLemmas.{said_first, said_same}
use Rattle.revs_run.specs.inside.Calls.{Going, IsStuckAs, Leaves, Says}
use Rattle.revs_run.proofs.ProgressLemmas.{regroup, same_next, after_went}

-- ---- outputs are read one after another

abbrev pub left_to_read : Place → List ℕ → List Ref → State (Unit {0}) → Going (List (Stamped (Unit {0})))
left_to_read at ls made s = after (read_all no_bits at ls s) (λ more s. went (map stamped made ++ more) s)

pub record InReads (m : Machine) (at : Place) (made : List Ref) (rest all : List ℕ) : Type 0 where
  pub left : read_all no_bits at all (state_of m) ≡ left_to_read at rest made (state_of m)
  pub known : AllByRecursion (IsKnown (sum m.tape.params) (length m.tape.entries)) made
  pub count : length made + length rest ≡ length all

pub reads_begun : (m : Machine) (at : Place) (made : List Ref) (all : List ℕ) → made ≡ [] → InReads m at made all all
reads_begun m at made all none = record {
  left = after_went _ ∙ ap (λ (x : List Ref). left_to_read at all x (state_of m)) (sym none);
  known = subst (AllByRecursion (IsKnown (sum m.tape.params) (length m.tape.entries))) (sym none) tt;
  count = ap (λ (x : List Ref). length x + length all) none ∙ omega arith;
}

pub reads_more : (m : Machine) (at : Place) (made now : List Ref) (l : ℕ) (r : Ref) (ls rest all : List ℕ) → rest ≡ l ∷ ls → now ≡ made ++ r ∷ []
    → read no_bits l at (state_of m) ≡ went (stamped r) (state_of m) → IsKnown (sum m.tape.params) (length m.tape.entries) r
    → InReads m at made rest all → InReads m at now ls all
reads_more m at made now l r ls rest all cut pushed got known i = record {
  left = i.left ∙ ap (λ (x : List ℕ). left_to_read at x made (state_of m)) cut
      ∙ regroup (read no_bits l at (state_of m)) (λ first s. after (read_all no_bits at ls s) (λ more s. went (first ∷ more) s))
      (λ more s. went (map stamped made ++ more) s)
      ∙ ap (λ (o : Going (Stamped (Unit {0}))). after o
      (λ first s. after (after (read_all no_bits at ls s) (λ more s. went (first ∷ more) s)) (λ more s. went (map stamped made ++ more) s))) got
      ∙ regroup (read_all no_bits at ls (state_of m)) (λ more s. went (stamped r ∷ more) s) (λ more s. went (map stamped made ++ more) s)
      ∙ same_next (read_all no_bits at ls (state_of m)) (λ more s. went (map stamped made ++ stamped r ∷ more) s) (λ more s. went (map stamped now ++ more) s)
      (λ more s. ap (λ (x : List (Stamped (Unit {0}))). went x s)
      (sym (append_assoc (map stamped made) (stamped r ∷ []) more) ∙ ap (λ (x : List (Stamped (Unit {0}))). x ++ more)
      (sym (map-append stamped made (r ∷ [])) ∙ ap (map stamped) (sym pushed))));
  known = subst (AllByRecursion (IsKnown (sum m.tape.params) (length m.tape.entries))) (sym pushed)
      (AllByRecursion-push (IsKnown (sum m.tape.params) (length m.tape.entries)) made r i.known known);
  count = omega (arith, ap length pushed ∙ length-append made (r ∷ []), ap length cut, i.count);
}

pub reads_stuck : (m : Machine) (at : Place) (made : List Ref) (l : ℕ) (ls rest all : List ℕ) (fault : RunFault) → rest ≡ l ∷ ls
    → InReads m at made rest all → Says fault (read no_bits l at (state_of m)) → Says fault (read_all no_bits at all (state_of m))
reads_stuck m at made l ls rest all fault cut i s =
    said_same fault _ _ (i.left ∙ ap (λ (x : List ℕ). left_to_read at x made (state_of m)) cut)
    (said_first fault _ (λ more s. went (map stamped made ++ more) s)
    (said_first fault (read no_bits l at (state_of m)) (λ first s. after (read_all no_bits at ls s) (λ more s. went (first ∷ more) s)) s))

pub reads_done : (m : Machine) (at : Place) (made : List Ref) (rest all : List ℕ) → rest ≡ [] → InReads m at made rest all → Reads m all at made
reads_done m at made rest all none i = record {
  read = i.left ∙ ap (λ (x : List ℕ). left_to_read at x made (state_of m)) none ∙ ap (λ (x : List (Stamped (Unit {0}))). went x (state_of m))
      (append-nil (map stamped made));
  known = i.known;
  count = omega (arith, ap length none, i.count);
}

-- ---- the whole run

claims_back : (cs : List Claim) → map (λ m. m.claim) (map met_by cs) ≡ cs
claims_back [] = refl
claims_back (c ∷ cs) = ap (λ (x : List Claim). c ∷ x) (claims_back cs)

stamps_back : (rs : List Ref) → map (λ o. o.stamp) (map stamped rs) ≡ rs
stamps_back [] = refl
stamps_back (r ∷ rs) = ap (λ (x : List Ref). r ∷ x) (stamps_back rs)

-- the run of a program with so many levels of depth
abbrev pub run_within : ℕ → List Param → Tree → Going (List (Stamped (Unit {0})))
run_within left params body = body_step left (params_in 0 params nothing) body (start (nothings (sum (widths_of params))))

at_start : (left : ℕ) (params : List Param) (body : Tree) (m : Machine) (env : ℕ) → IsStart params m → env ≡ length m.bindings.items
    → run_within left params body ≡ body_step left (env_in (envs_of m) env) body (state_of m)
at_start left params body m env s e =
    sym (ap (λ (x : Environment). body_step left x body (state_of m)) (ap (env_in (envs_of m)) e ∙ s.env)
    ∙ ap (body_step left (params_in 0 params nothing) body) s.state)

pub program_stuck : (left : ℕ) (params : List Param) (body : Tree) (m : Machine) (env : ℕ) (fault : RunFault) → IsStart params m
    → env ≡ length m.bindings.items
    → Says fault (body_step left (env_in (envs_of m) env) body (state_of m)) → Says fault (run_within left params body)
program_stuck left params body m env fault s e says = said_same fault _ _ (at_start left params body m env s e) says

pub program_leaves : (left : ℕ) (params : List Param) (body : Tree) (m now : Machine) (env : ℕ) (made : List Ref) (tape : TapeView)
    → IsStart params m → env ≡ length m.bindings.items
    → body_step left (env_in (envs_of m) env) body (state_of m) ≡ went (map stamped made) (state_of now) → Grows m now
    → tape ≡ record now.tape { outputs = made }
    → (run_within left params body ≡ went (map stamped made) (state_of now)) × (tape ≡ tape_of params (map stamped made) (state_of now))
program_leaves left params body m now env made tape s e runs grows t =
    let p : now.tape.params ≡ widths_of params = grows.params ∙ s.widths in
    let c = claims_back now.tape.claims in
    let r = stamps_back made in (
      at_start left params body m env s e ∙ runs,
      t ∙ (rw (p, c, r) refl),
    )

-- ---- the body

pub body_stuck : (left : ℕ) (env : Environment) (body : Tree) (m : Machine) (fault : RunFault) → Says fault (run_of no_bits left env body (state_of m))
    → Says fault (body_step left env body (state_of m))
body_stuck left env body m fault says = said_first fault (run_of no_bits left env body (state_of m)) (outputs_step (place_of body)) says

body_run : (left : ℕ) (env : Environment) (body : Tree) (m now : Machine) (v : Value) → Goes m now (run_of no_bits left env body (state_of m)) v
    → body_step left env body (state_of m) ≡ outputs_step (place_of body) (value_in (envs_of now) v) (state_of now)
body_run left env body m now v g = ap (λ (o : Going runs.Value). after o (outputs_step (place_of body))) g.does.goes

pub outputs_stuck : (left : ℕ) (env : Environment) (body : Tree) (m now : Machine) (v : Value) (fault : RunFault)
    → Goes m now (run_of no_bits left env body (state_of m)) v
    → Says fault (outputs_step (place_of body) (value_in (envs_of now) v) (state_of now)) → Says fault (body_step left env body (state_of m))
outputs_stuck left env body m now v fault g says = said_same fault _ _ (body_run left env body m now v g) says

pub body_ends : (m now : Machine) (env : ℕ) (body : Tree) (v : Value) (made : List Ref)
    → Goes m now (run_of no_bits 400 (env_in (envs_of m) env) body (state_of m)) v
    → Outputs now (value_in (envs_of now) v) (place_of body) made → Ends m now env body made
body_ends m now env body v made g o = record {
  runs = body_run 400 (env_in (envs_of m) env) body m now v g ∙ o.read;
  grows = g.does.grows;
  known = o.known;
  few = o.few;
}

-- ---- what is left of a list

pub at_last : {X : Type 0} (xs : List X) (i : ℕ) → length xs ≤ i → drop i xs ≡ []
at_last [] zero h = refl
at_last [] (suc i) h = refl
at_last (y ∷ ys) zero h = absurd (omega arith)
at_last (y ∷ ys) (suc i) h = at_last ys i (omega arith)

pub at_default : {X : Type 0} (xs : List X) (i : ℕ) (d : X) → i < length xs → drop i xs ≡ get_or xs i d ∷ drop (i + 1) xs
at_default [] i d h = absurd (omega arith)
at_default (y ∷ ys) zero d h = refl
at_default (y ∷ ys) (suc i) d h =
    let next : suc i + 1 ≡ suc (i + 1) = omega arith in
    rw next (at_default ys i d (omega arith))

-- ---- every input

stuck_on_all : (params : List Param) (body : Tree) (fault : RunFault) → IsStuckAs fault (run_without_bits params body) → IsStuckOnAll params body fault
stuck_on_all params body (faults.Stuck cause at) e = (same_for_all params body).0 cause at e
stuck_on_all params body (faults.Memory _) e = tt

pub refused : (params : List Param) (body : Tree) (fault : RunFault) → Says fault (run_without_bits params body) → IsRefused params body fault
refused params body fault s = record { stuck = stuck_on_all params body fault s.stuck }

pub left_on_all : (params : List Param) (body : Tree) (tape : TapeView) → Leaves params body tape → IsTapeOf params body tape
left_on_all params body tape l = subst (IsTapeOf params body) (sym l.left) ((same_for_all params body).1 l.outputs l.state l.ends)

pub written_few : (params : List Param) (body : Tree) (tape : TapeView) → Leaves params body tape → length tape.entries ≤ 262144
written_few params body tape l =
    subst (λ (t : TapeView). length t.entries ≤ 262144) (sym l.left) (writes_few params body l.outputs l.state l.ends)

-- a program has an output
pub some_made : (left : ℕ) (params : List Param) (body : Tree) (m now : Machine) (env : ℕ) (made : List Ref)
    → run_within left params body ≡ run_without_bits params body
    → AreParams params → IsTrue (is_formed body) → IsStart params m → env ≡ length m.bindings.items
    → body_step left (env_in (envs_of m) env) body (state_of m) ≡ went (map stamped made) (state_of now)
    → 1 ≤ length made
some_made left params body m now env made same are formed s e runs =
    let some : 1 ≤ length (map stamped made) = has_outputs params body (map stamped made) (state_of now) are formed
    (sym same ∙ at_start left params body m env s e ∙ runs) in
    omega (arith, some, length-map made stamped)

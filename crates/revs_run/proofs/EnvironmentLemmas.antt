-- Environments by their numbers, as bindings are added.
use Rattle.std.proofs.Common.{◌≡◌, ℕ, zero, suc, ◌+◌, ◌-◌, ◌≤◌, ◌<◌, Some, List, [], ◌∷◌, ◌++◌, length, slice_index_or}
use Rattle.std.proofs.Common.{slice_get, get_or, length-append, append_assoc, arith, refl, sym, ap, ◌∙◌, subst}
use Rattle.std.proofs.lemmas.List.{append-nil}
use Rattle.revs_terms.specs.Running as runs
use Rattle.revs_terms.specs.Running.{Environment, nothing, bound, value_at, State, Outcome, went, worked}
use Rattle.array_shapes.specs.declared.value.Value.{Value}
use Rattle.array_shapes.specs.Values as values
use Rattle.array_shapes.specs.Values.{ValueView, seen}
use Rattle.revs_run.specs.declared.leaps.Leap.{Leap}
use Rattle.revs_run.specs.declared.machine.Binding.{Binding}
use Rattle.revs_run.specs.declared.machine.Machine.{Machine}
use Rattle.revs_tape.specs.declared.limits.TheConstants.{MOST_INPUTS}
use Rattle.revs_tape.specs.Tapes.{TapeView}
use Rattle.revc_base.specs.declared.place.Place.{Place}
use Rattle.revs_terms.specs.Runs.{no_bits}
use Rattle.revs_run.proofs.FaultLemmas.{goes_on}
use Rattle.revs_run.specs.inside.Calls.{bind_step}
use Rattle.revs_run.specs.inside.Machines.{view_length, env_in, spec_value, value_in, bound_in, envs_from, IsValueView, IsValue}
use Rattle.revs_run.specs.inside.Machines.{AreBindings, AreLeaps, envs_of, state_of, IsMachine, Grows, Does, BindsOne}

-- ---- what stands in front stays

at_front : (d r : List Environment) (k : ℕ) → k < length d → slice_index_or (d ++ r) k nothing ≡ slice_index_or d k nothing
at_front [] r k h = absurd (omega arith)
at_front (e ∷ d) r zero h = refl
at_front (e ∷ d) r (suc k) h = at_front d r k (omega arith)

pub env_in-front : (d r : List Environment) (k : ℕ) → k ≤ length d → env_in (d ++ r) k ≡ env_in d k
env_in-front d r zero h = refl
env_in-front d r (suc k) h = at_front d r k (omega arith)

pub spec_value-front : (d r : List Environment) (v : ValueView) → IsValueView (length d) v → spec_value (d ++ r) v ≡ spec_value d v
spec_value-front d r values.unit h = refl
spec_value-front d r (values.bit location) h = refl
spec_value-front d r (values.register locations) h = refl
spec_value-front d r (values.number k) h = refl
spec_value-front d r (values.function env taken of) h = rw (env_in-front d r env h) refl

IsValueView-later : (n m : ℕ) (v : ValueView) → n ≤ m → IsValueView n v → IsValueView m v
IsValueView-later n m values.unit le h = tt
IsValueView-later n m (values.bit location) le h = tt
IsValueView-later n m (values.register locations) le h = tt
IsValueView-later n m (values.number k) le h = tt
IsValueView-later n m (values.function env taken of) le h = omega (arith, le, h)

-- ---- the environments of bindings

pub envs_from-append : (d : List Environment) (bs more : List Binding) → envs_from d (bs ++ more) ≡ envs_from (envs_from d bs) more
envs_from-append d [] more = refl
envs_from-append d (b ∷ bs) more = envs_from-append (d ++ bound_in d b ∷ []) bs more

-- the environments behind those so far
pub added_by : List Environment → List Binding → List Environment
added_by d [] = []
added_by d (b ∷ bs) = bound_in d b ∷ added_by (d ++ bound_in d b ∷ []) bs

pub envs_from-front : (d : List Environment) (bs : List Binding) → envs_from d bs ≡ d ++ added_by d bs
unfolding added_by
envs_from-front d [] = sym (append-nil d)
envs_from-front d (b ∷ bs) = envs_from-front (d ++ bound_in d b ∷ []) bs ∙ append_assoc d (bound_in d b ∷ []) (added_by (d ++ bound_in d b ∷ []) bs)

pub envs_from-length : (d : List Environment) (bs : List Binding) → length (envs_from d bs) ≡ length d + length bs
envs_from-length d [] = omega arith
envs_from-length d (b ∷ bs) = envs_from-length (d ++ bound_in d b ∷ []) bs ∙ omega (arith, length-append d (bound_in d b ∷ []))

pub envs_of-length : (m : Machine) → length (envs_of m) ≡ length m.bindings.items
envs_of-length m = envs_from-length [] m.bindings.items ∙ omega arith

-- ---- growing

grown : (old now : Machine) (g : Grows old now) → envs_of now ≡ envs_of old ++ added_by (envs_of old) g.more
grown old now g = ap (envs_from []) g.bindings ∙ envs_from-append [] old.bindings.items g.more ∙ envs_from-front (envs_of old) g.more

pub grown_env : (old now : Machine) (env : ℕ) → Grows old now → env ≤ length old.bindings.items → env_in (envs_of now) env ≡ env_in (envs_of old) env
grown_env old now env g h =
    ap (λ (d : List Environment). env_in d env) (grown old now g)
    ∙ env_in-front (envs_of old) (added_by (envs_of old) g.more) env (omega (arith, envs_of-length old))

pub grown_value : (old now : Machine) (v : Value) → Grows old now → IsValue (length old.bindings.items) v
    → value_in (envs_of now) v ≡ value_in (envs_of old) v
grown_value old now v g h =
    ap (λ (d : List Environment). spec_value d (seen v)) (grown old now g)
    ∙ spec_value-front (envs_of old) (added_by (envs_of old) g.more) (seen v) (subst (λ (n : ℕ). IsValueView n (seen v)) (sym (envs_of-length old)) h.made)

pub grown_length : (old now : Machine) → Grows old now → length old.bindings.items ≤ length now.bindings.items
grown_length old now g = rw g.bindings (omega (arith, length-append old.bindings.items g.more))

pub grown_within : {old now : Machine} {env : ℕ} → Grows old now → env ≤ length old.bindings.items → env ≤ length now.bindings.items
grown_within {old} {now} {env} g h = omega (arith, grown_length old now g)

pub grown_made : (old now : Machine) (v : Value) → Grows old now → IsValue (length old.bindings.items) v → IsValue (length now.bindings.items) v
grown_made old now v g h = record { made = IsValueView-later _ _ (seen v) (grown_length old now g) h.made }

pub grows_same : (old now : Machine) → now.bindings.items ≡ old.bindings.items → now.tape.params ≡ old.tape.params → Grows old now
grows_same old now e p = record { more = []; bindings = e ∙ sym (append-nil old.bindings.items); params = p }

pub grows_trans : (a b c : Machine) → Grows a b → Grows b c → Grows a c
grows_trans a b c g h = record {
  more = g.more ++ h.more;
  bindings = h.bindings ∙ ap (λ (xs : List Binding). xs ++ h.more) g.bindings ∙ append_assoc a.bindings.items g.more h.more;
  params = h.params ∙ g.params;
}

-- ---- one more binding

at_end : (d : List Environment) (e : Environment) → slice_index_or (d ++ e ∷ []) (length d) nothing ≡ e
at_end [] e = refl
at_end (f ∷ d) e = at_end d e

-- the environment of the last binding
pub pushed_at : (bs : List Binding) (b : Binding) → env_in (envs_from [] (bs ++ b ∷ [])) (length bs + 1) ≡ bound_in (envs_from [] bs) b
pushed_at bs b =
    let place : length bs + 1 ≡ suc (length (envs_from [] bs)) = omega (arith, envs_from-length [] bs) in
    ap (λ (k : ℕ). env_in (envs_from [] (bs ++ b ∷ [])) k) place
    ∙ ap (λ (d : List Environment). slice_index_or d (length (envs_from [] bs)) nothing) (envs_from-append [] bs (b ∷ []))
    ∙ at_end (envs_from [] bs) (bound_in (envs_from [] bs) b)

pub pushed_env : (old now : Machine) (b : Binding) → now.bindings.items ≡ old.bindings.items ++ b ∷ []
    → env_in (envs_of now) (length old.bindings.items + 1) ≡ bound_in (envs_of old) b
pushed_env old now b e = ap (λ (bs : List Binding). env_in (envs_from [] bs) (length old.bindings.items + 1)) e ∙ pushed_at old.bindings.items b

AreBindings-push : (n : ℕ) (bs : List Binding) (b : Binding) → AreBindings n bs → b.parent ≤ n + length bs → IsValueView (n + length bs) (seen b.value)
    → AreBindings n (bs ++ b ∷ [])
AreBindings-push n [] b are p v = (subst (λ (k : ℕ). b.parent ≤ k) (omega arith) p, (subst (λ (k : ℕ). IsValueView k (seen b.value)) (omega arith) v, tt))
AreBindings-push n (c ∷ bs) b are p v = (
  are.0,
  (
    are.1.0,
    AreBindings-push (n + 1) bs b are.1.1 (subst (λ (k : ℕ). b.parent ≤ k) (omega arith) p)
        (subst (λ (k : ℕ). IsValueView k (seen b.value)) (omega arith) v),
  ),
)

pub bindings_pushed : (bs : List Binding) (b : Binding) → AreBindings 0 bs → b.parent ≤ length bs → IsValueView (length bs) (seen b.value)
    → AreBindings 0 (bs ++ b ∷ [])
bindings_pushed bs b are p v = AreBindings-push 0 bs b are (subst (λ (k : ℕ). b.parent ≤ k) (omega arith) p)
    (subst (λ (k : ℕ). IsValueView k (seen b.value)) (omega arith) v)

-- ---- an environment that is there

-- The environment behind the n-th is that of a binding, which is made of those up to the n-th.
pub record IsPlaced (envs : List Environment) (n : ℕ) (b : Binding) : Type 0 where
  pub env : env_in envs (suc n) ≡ bound_in envs b
  pub parent : b.parent ≤ n
  pub made : IsValueView n (seen b.value)

bound_in-front : (d r : List Environment) (b : Binding) → b.parent ≤ length d → IsValueView (length d) (seen b.value) → bound_in (d ++ r) b ≡ bound_in d b
bound_in-front d r b p v = rw (env_in-front d r b.parent p, spec_value-front d r (seen b.value) v) refl

placed_here : (d : List Environment) (bs : List Binding) (b : Binding) → b.parent ≤ length d → IsValueView (length d) (seen b.value)
    → env_in (envs_from (d ++ bound_in d b ∷ []) bs) (suc (length d)) ≡ bound_in (envs_from (d ++ bound_in d b ∷ []) bs) b
placed_here d bs b p v =
    let e = d ++ bound_in d b ∷ [] in
    let r = added_by e bs in
    let whole : envs_from e bs ≡ e ++ r = envs_from-front e bs in
    let longer : length e ≡ length d + 1 = length-append d (bound_in d b ∷ []) in
    rw whole (env_in-front e r (suc (length d)) (omega arith) ∙ at_end d (bound_in d b)
    ∙ sym (bound_in-front e r b (omega arith) (IsValueView-later (length d) (length e) (seen b.value) (omega arith) v) ∙ bound_in-front d
    (bound_in d b ∷ []) b p v))

pub at_place : (d : List Environment) (bs : List Binding) (k : ℕ) (b : Binding) → AreBindings (length d) bs → slice_get bs k ≡ Some b
    → IsPlaced (envs_from d bs) (length d + k) b
at_place d [] k b are e = absurd cc
at_place d (c ∷ cs) zero b are e =
    let same : c ≡ b = cc in
    subst (λ (x : Binding). IsPlaced (envs_from d (c ∷ cs)) (length d + 0) x) same
    (subst (λ (n : ℕ). IsPlaced (envs_from d (c ∷ cs)) n c) (omega arith) (record {
      env = placed_here d cs c are.0 are.1.0;
      parent = are.0;
      made = are.1.0;
    }))
at_place d (c ∷ cs) (suc k) b are e =
    let longer : length (d ++ bound_in d c ∷ []) ≡ length d + 1 = length-append d (bound_in d c ∷ []) in
    subst (λ (n : ℕ). IsPlaced (envs_from d (c ∷ cs)) n b) (omega arith)
    (at_place (d ++ bound_in d c ∷ []) cs k b (subst (λ (n : ℕ). AreBindings n cs) (sym longer) are.1.1) e)

-- the binding of an environment of the machine
pub placed : (m : Machine) (k : ℕ) (b : Binding) → IsMachine m → slice_get m.bindings.items k ≡ Some b → IsPlaced (envs_of m) k b
placed m k b is e = subst (λ (n : ℕ). IsPlaced (envs_of m) n b) (omega arith) (at_place [] m.bindings.items k b is.made e)

-- ---- a value is bound

bound_length-view : (envs : List Environment) (v : ValueView) → runs.bound_length (spec_value envs v) ≡ view_length v
bound_length-view envs values.unit = refl
bound_length-view envs (values.bit location) = refl
bound_length-view envs (values.register locations) = refl
bound_length-view envs (values.number k) = refl
bound_length-view envs (values.function env taken of) = refl

-- one more binding, which counts no work
pub pushed_done : (old now : Machine) (value : Value) (env made : ℕ) (leap : Leap) → IsMachine old
    → now.bindings.items ≡ old.bindings.items ++ record { value = value; parent = env; leap = leap } ∷ []
    → now.store.items ≡ old.store.items → now.tape ≡ old.tape → now.work ≡ old.work → made ≡ length now.bindings.items
    → length old.bindings.items + 1 ≤ MOST_INPUTS + old.work → env ≤ length old.bindings.items → IsValue (length old.bindings.items) value
    → AreLeaps [] now.bindings.items
    → BindsOne old now (went (bound (value_in (envs_of old) value) (env_in (envs_of old) env)) (state_of old)) made
pushed_done old now value env made leap is b s t k m space h v leaps =
    let longer : length now.bindings.items ≡ length old.bindings.items + 1 = ap length b ∙ length-append old.bindings.items
    (record { value = value; parent = env; leap = leap } ∷ []) in
    let state : state_of old ≡ state_of now = cc in
    let last : env_in (envs_of now) made ≡ bound (value_in (envs_of old) value) (env_in (envs_of old) env) =
    ap (env_in (envs_of now)) (m ∙ longer) ∙ pushed_env old now (record { value = value; parent = env; leap = leap }) b in
    record {
      goes = rw (last, state) refl;
      grows = record { more = record { value = value; parent = env; leap = leap } ∷ []; bindings = b; params = ap (λ (x : TapeView). x.params) t };
      kept = record {
        made = rw b (bindings_pushed old.bindings.items (record { value = value; parent = env; leap = leap }) is.made h v.made);
        leaps = leaps;
        known = rw (s, t) is.known;
        few = rw (s, t) is.few;
        within = rw k is.within;
        room = omega (arith, longer, k, space);
      };
      worked = omega (arith, longer, k);
      made = omega (arith, m);
    }

-- a binding, behind the work that its value counts
pub bound_done : (old mid now : Machine) (value : Value) (env made : ℕ) (at there : Place) → at ≡ there → (count : ℕ)
    → count ≡ view_length (seen value) → Does old mid (worked no_bits count at (state_of old)) tt
    → BindsOne mid now (went (bound (value_in (envs_of mid) value) (env_in (envs_of mid) env)) (state_of mid)) made
    → env ≤ length old.bindings.items → IsValue (length old.bindings.items) value
    → BindsOne old now (bind_step (value_in (envs_of old) value) (env_in (envs_of old) env) there (state_of old)) made
bound_done old mid now value env made at there p count n w b h v =
    let counted : runs.bound_length (value_in (envs_of old) value) ≡ count = bound_length-view (envs_of old) (seen value) ∙ sym n in
    let same : bound (value_in (envs_of mid) value) (env_in (envs_of mid) env) ≡ bound (value_in (envs_of old) value) (env_in (envs_of old) env) =
    ap (λ (x : runs.Value). bound x (env_in (envs_of mid) env)) (grown_value old mid value w.grows v)
    ∙ ap (bound (value_in (envs_of old) value)) (grown_env old mid env w.grows h) in
    record {
      goes = rw (← p, counted) (goes_on _ _ _ _ _ w.goes (rw (← same) b.goes));
      grows = grows_trans old mid now w.grows b.grows;
      kept = b.kept;
      worked = omega (arith, w.worked, b.worked);
      made = b.made;
    }

-- ---- the value of a name

nothing_bound : (back : ℕ) → value_at nothing back ≡ runs.unit
nothing_bound back = refl

-- no name is bound in the empty environment
pub none_bound : (m : Machine) (env back : ℕ) → env ≡ 0 → value_at (env_in (envs_of m) env) back ≡ runs.unit
none_bound m env back e = ap (λ (k : ℕ). value_at (env_in (envs_of m) k) back) e ∙ nothing_bound back

pub got : (bs : List Binding) (k : ℕ) (b : Binding) → k < length bs → b ≡ get_or bs k b → slice_get bs k ≡ Some b
got [] k b h e = absurd (omega arith)
got (c ∷ cs) zero b h e = ap Some (sym e)
got (c ∷ cs) (suc k) b h e = got cs k b (omega arith) e

bound_env : (m : Machine) (env : ℕ) (b : Binding) → IsMachine m → 0 < env → env ≤ length m.bindings.items → b ≡ get_or m.bindings.items (env - 1) b
    → (env_in (envs_of m) env ≡ bound_in (envs_of m) b) × (b.parent ≤ env - 1) × IsValueView (env - 1) (seen b.value)
bound_env m env b is some within e =
    let p = placed m (env - 1) b is (got m.bindings.items (env - 1) b (omega arith) e) in
    let k : env ≡ suc (env - 1) = omega arith in
    (ap (env_in (envs_of m)) k ∙ p.env, p.parent, p.made)

-- the nearest binding
pub nearest : (m : Machine) (env left : ℕ) (b : Binding) → IsMachine m → 0 < env → env ≤ length m.bindings.items → left ≡ 0
    → b ≡ get_or m.bindings.items (env - 1) b
    → (value_in (envs_of m) b.value ≡ value_at (env_in (envs_of m) env) left) × IsValueView (length m.bindings.items) (seen b.value)
nearest m env left b is some within none e =
    let p = bound_env m env b is some within e in (
      sym (ap (value_at (env_in (envs_of m) env)) none ∙ ap (λ (x : Environment). value_at x 0) p.0),
      IsValueView-later (env - 1) (length m.bindings.items)
          (seen b.value) (omega arith) p.2,
    )

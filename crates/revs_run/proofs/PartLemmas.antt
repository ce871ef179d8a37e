-- The parts of a value, one after another.
use Rattle.std.proofs.Common.{◌≡◌, ℕ, ◌+◌, ◌<◌, ◌≤◌, leb, true, Some, List, [], ◌∷◌, ◌++◌, length}
use Rattle.std.specs.Prelude.{ℤ}
use Rattle.std.proofs.Common.{refl, sym, ap, ◌∙◌, inl, inr, arith}
use Rattle.std.proofs.lemmas.Option.{same_Some}
use Rattle.std.proofs.lemmas.Bool.Decides.{leb_tells}
use Rattle.revc_base.specs.declared.place.Place.{Place}
use Rattle.revs_terms.specs.declared.term.Step.{Step}
use Rattle.revs_terms.specs.declared.term.Part.{Part}
use Rattle.revs_terms.specs.declared.term.Part.TheVariants as part
use Rattle.revs_terms.specs.declared.cause.Cause.TheVariants as causes
use Rattle.revs_terms.specs.declared.limits.TheConstants.{MOST_PLACES}
use Rattle.revs_terms.specs.Running as runs
use Rattle.revs_terms.specs.Running.{Environment, State, stuck, after, provided, registered, appended, rotated, number_of}
use Rattle.revs_terms.specs.Running.{part_of, parts_of}
use Rattle.revs_terms.specs.Runs.{no_bits}
use Rattle.array_shapes.specs.declared.value.Value.{Value}
use Rattle.array_shapes.specs.Values as values
use Rattle.array_shapes.specs.Values.{ValueView, seen, register_of}
use Rattle.revs_run.specs.declared.fault.RunFault.{RunFault}
use Rattle.revs_run.specs.declared.machine.Machine.{Machine}
use Rattle.revs_run.specs.inside.Machines.{env_in, spec_value, value_in, envs_of, state_of, IsMachine, IsValue, Does, Goes}
use Rattle.revs_run.proofs.FaultLemmas.{said_first, said_same}
use Rattle.revs_run.specs.inside.Calls.{Going, Says}
use Rattle.revs_run.specs.inside.Numbers.{slice_step, turn_step}
use Rattle.revs_run.proofs.ProgressLemmas.{Through, begun, step, same_rest, ends_here, said, does_in, goes_in, says_in}

pub record InParts (old now : Machine) (e : Environment) (whole : Place) (ps : List Part) (v : Value) (run : Going runs.Value) : Type 0 where
  pub through : Through old now run (parts_of no_bits e whole ps (value_in (envs_of now) v) (state_of now))
  pub made : IsValue (length now.bindings.items) v

pub parts_begun : (m : Machine) (e : Environment) (whole : Place) (ps : List Part) (v : Value) → IsMachine m → IsValue (length m.bindings.items) v
    → InParts m m e whole ps v (parts_of no_bits e whole ps (value_in (envs_of m) v) (state_of m))
parts_begun m e whole ps v is made = record { through = begun m _ _ refl is; made = made }

pub parts_more : (old now later : Machine) (env : ℕ) (whole : Place) (p : Part) (ps qs : List Part) (v w : Value) (run : Going runs.Value)
    → env ≤ length old.bindings.items → qs ≡ p ∷ ps → InParts old now (env_in (envs_of old) env) whole qs v run
    → Goes now later (part_of no_bits (env_in (envs_of now) env) whole p (value_in (envs_of now) v) (state_of now)) w
    → InParts old later (env_in (envs_of old) env) whole ps w run
parts_more old now later env whole p ps qs v w run h cut i g =
    let e : Environment = env_in (envs_of old) env in
    let g2 = goes_in (λ x. part_of no_bits x whole p (value_in (envs_of now) v) (state_of now)) old now later env w i.through.grows h g in
    record {
      through = step (parts_of no_bits e whole ps)
          (same_rest _ (ap (λ (x : List Part). parts_of no_bits e whole x (value_in (envs_of now) v) (state_of now)) cut) i.through) g2.does;
      made = g.made;
    }

pub parts_stuck : (old now : Machine) (env : ℕ) (whole : Place) (p : Part) (ps qs : List Part) (v : Value) (run : Going runs.Value) (fault : RunFault)
    → env ≤ length old.bindings.items → qs ≡ p ∷ ps → InParts old now (env_in (envs_of old) env) whole qs v run
    → Says fault (part_of no_bits (env_in (envs_of now) env) whole p (value_in (envs_of now) v) (state_of now)) → Says fault run
parts_stuck old now env whole p ps qs v run fault h cut i s =
    let e : Environment = env_in (envs_of old) env in
    said fault (same_rest _ (ap (λ (x : List Part). parts_of no_bits e whole x (value_in (envs_of now) v) (state_of now)) cut) i.through)
    (said_first fault (part_of no_bits e whole p (value_in (envs_of now) v) (state_of now)) (parts_of no_bits e whole ps)
    (says_in (λ x. part_of no_bits x whole p (value_in (envs_of now) v) (state_of now)) old now env fault i.through.grows h s))

pub parts_done : (old now : Machine) (e : Environment) (whole : Place) (qs : List Part) (v : Value) (run : Going runs.Value) → qs ≡ []
    → InParts old now e whole qs v run → Goes old now run v
parts_done old now e whole qs v run none i = record {
  does = ends_here (value_in (envs_of now) v) i.through (ap (λ (x : List Part). parts_of no_bits e whole x (value_in (envs_of now) v) (state_of now)) none);
  made = i.made;
}

-- ---- registers of other registers

as_register_is : (envs : List Environment) (v : ValueView) (r : List ℕ) → Some r ≡ register_of v → spec_value envs v ≡ runs.register r
as_register_is envs (values.register ls) r e = ap runs.register (sym (same_Some _ _ e))
as_register_is envs values.unit r e = absurd (cc)
as_register_is envs (values.bit l) r e = absurd (cc)
as_register_is envs (values.number k) r e = absurd (cc)
as_register_is envs (values.function n k of) r e = absurd (cc)

at_most : (n m : ℕ) → (m < n → ⊥) → leb n m ≡ true
at_most n m h = elim (leb_tells n m) [ inl t ↦ t.0 | inr t ↦ absurd (h (omega (arith, t.1))) ]

pub append_is : (envs : List Environment) (v w : ValueView) (r q made : List ℕ) (first second at : Place) (s : State (Unit {0})) → Some r ≡ register_of v
    → Some q ≡ register_of w → (MOST_PLACES < length r + length q → ⊥) → made ≡ r ++ q
    → appended no_bits first second at (spec_value envs v) (spec_value envs w) s ≡ registered no_bits made at s
append_is envs v w r q made first second at s e f h m =
    ap (λ x. appended no_bits first second at x (spec_value envs w) s) (as_register_is envs v r e)
    ∙ ap (λ y. appended no_bits first second at (runs.register r) y s) (as_register_is envs w q f)
    ∙ ap (λ t. provided t causes.Length at (registered no_bits (r ++ q) at s)) (at_most (length r + length q) MOST_PLACES h)
    ∙ ap (λ l. registered no_bits l at s) (sym m)

pub rotate_is : (envs : List Environment) (v : ValueView) (r : List ℕ) (k : ℤ) (operand at : Place) (s : State (Unit {0})) → Some r ≡ register_of v
    → rotated no_bits k operand at (spec_value envs v) s ≡ turn_step r k at s
rotate_is envs v r k operand at s e = ap (λ x. rotated no_bits k operand at x s) (as_register_is envs v r e)

-- ---- slices, whose numbers are read in order

slice_is : (e : Environment) (envs : List Environment) (v : ValueView) (r : List ℕ) (i j : List Step) (whole at : Place) (s : State (Unit {0}))
    → Some r ≡ register_of v
    → part_of no_bits e whole (part.Slice i j at) (spec_value envs v) s ≡ after (number_of no_bits e i s)
    (λ first s. after (number_of no_bits e j s) (λ last s. slice_step r first last at whole s))
slice_is e envs v r i j whole at s g = ap (λ x. part_of no_bits e whole (part.Slice i j at) x s) (as_register_is envs v r g)

-- stuck at the number of an element, and at the first number of a slice
pub index_stuck : (m : Machine) (e : Environment) (v : Value) (r : List ℕ) (i : List Step) (whole at : Place) (fault : RunFault)
    → Some r ≡ register_of (seen v) → Says fault (number_of no_bits e i (state_of m))
    → Says fault (part_of no_bits e whole (part.Index i at) (value_in (envs_of m) v) (state_of m))
index_stuck m e v r i whole at fault is s =
    said_same fault _ _ (ap (λ x. part_of no_bits e whole (part.Index i at) x (state_of m)) (as_register_is (envs_of m) (seen v) r is))
    (said_first fault _ _ s)

pub first_stuck : (m : Machine) (e : Environment) (v : Value) (r : List ℕ) (i j : List Step) (whole at : Place) (fault : RunFault)
    → Some r ≡ register_of (seen v) → Says fault (number_of no_bits e i (state_of m))
    → Says fault (part_of no_bits e whole (part.Slice i j at) (value_in (envs_of m) v) (state_of m))
first_stuck m e v r i j whole at fault is s =
    said_same fault _ _ (slice_is e (envs_of m) (seen v) r i j whole at (state_of m) is) (said_first fault _ _ s)

-- the first number of a slice, and then both
pub slice_first : (old mid : Machine) (env : ℕ) (v : Value) (r : List ℕ) (i j : List Step) (first : ℤ) (whole at : Place) → Some r ≡ register_of (seen v)
    → IsMachine old → Does old mid (number_of no_bits (env_in (envs_of old) env) i (state_of old)) first
    → Through old mid (part_of no_bits (env_in (envs_of old) env) whole (part.Slice i j at) (value_in (envs_of old) v) (state_of old))
    (after (number_of no_bits (env_in (envs_of old) env) j (state_of mid)) (λ last s. slice_step r first last at whole s))
slice_first old mid env v r i j first whole at e is d =
    let z : Environment = env_in (envs_of old) env in
    step (λ first s. after (number_of no_bits z j s) (λ last s. slice_step r first last at whole s))
    (begun old _ _ (slice_is z (envs_of old) (seen v) r i j whole at (state_of old) e) is) d

pub slice_both : (old mid now : Machine) (env : ℕ) (v : Value) (r : List ℕ) (i j : List Step) (first last : ℤ) (whole at : Place)
    → Some r ≡ register_of (seen v) → IsMachine old → env ≤ length old.bindings.items
    → Does old mid (number_of no_bits (env_in (envs_of old) env) i (state_of old)) first
    → Does mid now (number_of no_bits (env_in (envs_of mid) env) j (state_of mid)) last
    → Through old now (part_of no_bits (env_in (envs_of old) env) whole (part.Slice i j at) (value_in (envs_of old) v) (state_of old))
    (slice_step r first last at whole (state_of now))
slice_both old mid now env v r i j first last whole at e is h d g =
    step (λ last s. slice_step r first last at whole s) (slice_first old mid env v r i j first whole at e is d)
    (does_in (λ x. number_of no_bits x j (state_of mid)) old mid now env last d.grows h g)

pub slice_stuck : (old mid : Machine) (env : ℕ) (v : Value) (r : List ℕ) (i j : List Step) (first : ℤ) (whole at : Place) (fault : RunFault)
    → Some r ≡ register_of (seen v) → IsMachine old → env ≤ length old.bindings.items
    → Does old mid (number_of no_bits (env_in (envs_of old) env) i (state_of old)) first
    → Says fault (number_of no_bits (env_in (envs_of mid) env) j (state_of mid))
    → Says fault (part_of no_bits (env_in (envs_of old) env) whole (part.Slice i j at) (value_in (envs_of old) v) (state_of old))
slice_stuck old mid env v r i j first whole at fault e is h d s =
    said fault (slice_first old mid env v r i j first whole at e is d)
    (said_first fault _ _ (says_in (λ x. number_of no_bits x j (state_of mid)) old mid env fault d.grows h s))

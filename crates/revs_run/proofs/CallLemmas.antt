-- Blocks, parts and functions, as the machine takes them.
use Rattle.std.proofs.Common.{◌≡◌, ℕ, zero, suc, ◌+◌, ◌-◌, ◌≤◌, ◌<◌, None, List, [], ◌∷◌, length, drop, map, get_or, refl, sym, ap, ◌∙◌, subst, arith}
use Rattle.revc_base.specs.declared.place.Place.{Place}
use Rattle.std.specs.Prelude.{ℤ, Result, Ok, Err, IfOk, IfErr}
use Rattle.revs_terms.specs.declared.term.Name.{Name}
use Rattle.revs_terms.specs.declared.term.Step.{Step}
use Rattle.revs_terms.specs.declared.term.Part.{Part}
use Rattle.revs_terms.specs.Terms.{place_of}
use Rattle.revs_terms.specs.Trees.{Tree, used, trees, list_of, ItemTree, item_trees, bind, run, block, parts, apply, append, rotate}
use Rattle.revs_terms.specs.Running as runs
use Rattle.revs_terms.specs.Running.{Environment, bound, bound_length, State, stuck, went, after, run_of, term_of, as_bit, bit_of}
use Rattle.revs_terms.specs.Running.{items_run, block_of, parts_of, apply_all, apply_to, worked, appended, rotated, number_of, value_at}
use Rattle.revs_terms.specs.Runs.{no_bits}
use Rattle.array_shapes.specs.declared.value.Value.{Value}
use Rattle.array_shapes.specs.Values as values
use Rattle.array_shapes.specs.Values.{ValueView, seen}
use Rattle.revs_run.specs.declared.fault.RunFault.{RunFault}
use Rattle.revs_run.specs.declared.fault.RunFault.TheVariants as faults
use Rattle.revs_run.specs.declared.machine.Machine.{Machine}
use Rattle.revs_run.specs.inside.Machines.{env_in, spec_value, value_in, envs_of, state_of, IsMachine, IsValue, Does, Goes}
use Rattle.revs_run.specs.inside.Machines.{Binds, AreWorkedFor, LeavesRoom, Grows, BindsOne, Calls}
use Rattle.revs_run.proofs.FaultLemmas.{said_first, said_same, memory_says}
use Rattle.revs_run.proofs.EnvironmentLemmas.{grown_env, grown_length, grown_value, grows_trans}
use Rattle.revs_run.proofs.ProgressLemmas.{Through, after_went, begun, ends_here, goes_in, items_of-item_trees, list_of-trees}
use Rattle.revs_run.proofs.ProgressLemmas.{regroup, said, same_next, same_rest, says_in, step, step_bound}
use Rattle.revs_run.specs.inside.Calls.{Going, Says, Follows, IsBitAt, NoBitAt, argument_step, bind_step, item_step}
use Rattle.revs_terms.specs.declared.cause.Cause.TheVariants as causes

-- ---- loops and exits

pub mapped_at : {X Y : Type 0} (f : X → Y) (xs : List X) (i : ℕ) (x : X) → i < length xs → x ≡ get_or xs i x
    → drop i (map f xs) ≡ f x ∷ drop (i + 1) (map f xs)
mapped_at f [] i x h e = absurd (omega arith)
mapped_at f (y ∷ ys) zero x h e = ap (λ z. f z ∷ map f ys) (sym e)
mapped_at f (y ∷ ys) (suc i) x h e =
    let next : suc i + 1 ≡ suc (i + 1) = omega arith in
    rw next (mapped_at f ys i x (omega arith) e)

pub mapped_end : {X Y : Type 0} (f : X → Y) (xs : List X) (i : ℕ) → length xs ≤ i → drop i (map f xs) ≡ []
mapped_end f [] zero h = refl
mapped_end f [] (suc i) h = refl
mapped_end f (y ∷ ys) zero h = absurd (omega arith)
mapped_end f (y ∷ ys) (suc i) h = mapped_end f ys i (omega arith)

-- ---- a value of a part, later

pub value_behind : (old mid : Machine) (left env : ℕ) (t : Tree) (v : Value) (next : runs.Value → State (Unit {0}) → Going runs.Value) → IsMachine old
    → Goes old mid (run_of no_bits left (env_in (envs_of old) env) t (state_of old)) v
    → Through old mid (after (run_of no_bits left (env_in (envs_of old) env) t (state_of old)) next) (next (value_in (envs_of mid) v) (state_of mid))
value_behind old mid left env t v next is g = step next (begun old _ _ refl is) g.does

-- ---- blocks

items_next : (left : ℕ) (e : Environment) (i : ItemTree) (is : List ItemTree) (s : State (Unit {0}))
    → items_run no_bits (run_of no_bits left) e (i ∷ is) s ≡ after (item_step (run_of no_bits left) e i s)
    (λ f s. items_run no_bits (run_of no_bits left) f is s)
items_next left e (bind name t) is s =
    let k : Environment → State (Unit {0}) → Going Environment = λ f s. items_run no_bits (run_of no_bits left) f is s in
    sym (regroup (run_of no_bits left e t s) (λ value s. bind_step value e (place_of t) s) k
    ∙ same_next (run_of no_bits left e t s) _ _ (λ value s. regroup (worked no_bits (bound_length value) (place_of t) s) (λ _ s. went (bound value e) s) k))
items_next left e (run t) is s =
    sym (regroup (run_of no_bits left e t s) (λ _ s. went e s) (λ f s. items_run no_bits (run_of no_bits left) f is s))

pub record InItems (old now : Machine) (left inner : ℕ) (is : List ItemTree) (whole : Going Environment) : Type 0 where
  pub through : Through old now whole (items_run no_bits (run_of no_bits left) (env_in (envs_of now) inner) is (state_of now))
  pub made : inner ≤ length now.bindings.items

pub items_more : (old now later : Machine) (left inner behind : ℕ) (i : ItemTree) (is js : List ItemTree) (whole : Going Environment)
    → js ≡ i ∷ is
    → InItems old now left inner js whole
    → Binds now later (item_step (run_of no_bits left) (env_in (envs_of now) inner) i (state_of now)) behind
    → InItems old later left behind is whole
items_more old now later left inner behind i is js whole cut w b = record {
  through = step (λ f s. items_run no_bits (run_of no_bits left) f is s)
      (same_rest _ (ap (λ (x : List ItemTree). items_run no_bits (run_of no_bits left) (env_in (envs_of now) inner) x (state_of now)) cut ∙ items_next
      left (env_in (envs_of now) inner) i is (state_of now)) w.through) b.does;
  made = b.made;
}

pub items_stuck : (old now : Machine) (left inner : ℕ) (i : ItemTree) (is js : List ItemTree) (whole : Going Environment) (fault : RunFault)
    → js ≡ i ∷ is
    → InItems old now left inner js whole
    → Says fault (item_step (run_of no_bits left) (env_in (envs_of now) inner) i (state_of now)) → Says fault whole
items_stuck old now left inner i is js whole fault cut w s =
    said fault (same_rest _ (ap (λ (x : List ItemTree). items_run no_bits (run_of no_bits left) (env_in (envs_of now) inner) x (state_of now)) cut ∙
    items_next left (env_in (envs_of now) inner) i is (state_of now)) w.through)
    (said_first fault _ (λ f s. items_run no_bits (run_of no_bits left) f is s) s)

pub items_done : (old now : Machine) (left inner : ℕ) (js : List ItemTree) (whole : Going Environment) → js ≡ []
    → InItems old now left inner js whole → Binds old now whole inner
items_done old now left inner js whole none w = record {
  does = ends_here (env_in (envs_of now) inner) w.through
      (ap (λ (x : List ItemTree). items_run no_bits (run_of no_bits left) (env_in (envs_of now) inner) x (state_of now)) none);
  made = w.made;
}

-- the last expression, behind the items
pub block_last : (old mid : Machine) (left env inner : ℕ) (is : List ItemTree) (last : Tree) → IsMachine old
    → Binds old mid (items_run no_bits (run_of no_bits left) (env_in (envs_of old) env) is (state_of old)) inner
    → Through old mid (block_of no_bits (run_of no_bits left) (env_in (envs_of old) env) is last (state_of old))
    (run_of no_bits left (env_in (envs_of mid) inner) last (state_of mid))
block_last old mid left env inner is last m b = step (λ f s. run_of no_bits left f last s) (begun old _ _ refl m) b.does

pub block_is : (left : ℕ) (e : Environment) (is : List ItemTree) (last : Tree) (at : Place) (s : State (Unit {0}))
    → term_of no_bits (run_of no_bits left) e (block (item_trees is) last at) s ≡ block_of no_bits (run_of no_bits left) e is last s
block_is left e is last at s = ap (λ (x : List ItemTree). block_of no_bits (run_of no_bits left) e x last s) (items_of-item_trees is)

-- ---- parts

pub at_begun : (old mid : Machine) (left env : ℕ) (t : Tree) (ps : List Part) (v : Value) (at : Place) → at ≡ place_of t → IsMachine old
    → env ≤ length old.bindings.items → Goes old mid (run_of no_bits left (env_in (envs_of old) env) t (state_of old)) v
    → Through old mid (term_of no_bits (run_of no_bits left) (env_in (envs_of old) env) (parts t ps) (state_of old))
    (parts_of no_bits (env_in (envs_of mid) env) at ps (value_in (envs_of mid) v) (state_of mid))
at_begun old mid left env t ps v at e is h g =
    same_rest _ (ap (λ (x : Place). parts_of no_bits (env_in (envs_of old) env) x ps (value_in (envs_of mid) v) (state_of mid)) (sym e)
    ∙ ap (λ (x : Environment). parts_of no_bits x at ps (value_in (envs_of mid) v) (state_of mid)) (sym (grown_env old mid env g.does.grows h)))
    (value_behind old mid left env t v (parts_of no_bits (env_in (envs_of old) env) (place_of t) ps) is g)

-- ---- rotations

rotation_begun : (old mid : Machine) (left env : ℕ) (by : List Step) (t : Tree) (at : Place) (k : ℤ) → IsMachine old
    → Does old mid (number_of no_bits (env_in (envs_of old) env) by (state_of old)) k
    → Through old mid (term_of no_bits (run_of no_bits left) (env_in (envs_of old) env) (rotate by t at) (state_of old))
    (after (run_of no_bits left (env_in (envs_of old) env) t (state_of mid)) (λ x s. rotated no_bits k (place_of t) at x s))
rotation_begun old mid left env by t at k is d =
    step (λ k s. after (run_of no_bits left (env_in (envs_of old) env) t s) (λ x s. rotated no_bits k (place_of t) at x s)) (begun old _ _ refl is) d

pub rotation_run : (old mid later : Machine) (left env : ℕ) (by : List Step) (t : Tree) (at : Place) (k : ℤ) (v : Value) → IsMachine old
    → env ≤ length old.bindings.items → Does old mid (number_of no_bits (env_in (envs_of old) env) by (state_of old)) k
    → Goes mid later (run_of no_bits left (env_in (envs_of mid) env) t (state_of mid)) v
    → Through old later (term_of no_bits (run_of no_bits left) (env_in (envs_of old) env) (rotate by t at) (state_of old))
    (rotated no_bits k (place_of t) at (value_in (envs_of later) v) (state_of later))
rotation_run old mid later left env by t at k v is h d g =
    step (λ x s. rotated no_bits k (place_of t) at x s) (rotation_begun old mid left env by t at k is d)
    (goes_in (λ e. run_of no_bits left e t (state_of mid)) old mid later env v d.grows h g).does

pub rotation_stuck : (old mid : Machine) (left env : ℕ) (by : List Step) (t : Tree) (at : Place) (k : ℤ) (fault : RunFault) → IsMachine old
    → env ≤ length old.bindings.items → Does old mid (number_of no_bits (env_in (envs_of old) env) by (state_of old)) k
    → Says fault (run_of no_bits left (env_in (envs_of mid) env) t (state_of mid))
    → Says fault (term_of no_bits (run_of no_bits left) (env_in (envs_of old) env) (rotate by t at) (state_of old))
rotation_stuck old mid left env by t at k fault is h d s =
    said fault (rotation_begun old mid left env by t at k is d)
    (said_first fault _ _ (says_in (λ e. run_of no_bits left e t (state_of mid)) old mid env fault d.grows h s))

-- ---- append

pub append_first : (old mid : Machine) (left env : ℕ) (a b : Tree) (at : Place) (x : Value) → IsMachine old
    → Goes old mid (run_of no_bits left (env_in (envs_of old) env) a (state_of old)) x
    → Through old mid (term_of no_bits (run_of no_bits left) (env_in (envs_of old) env) (append a b at) (state_of old))
    (after (run_of no_bits left (env_in (envs_of old) env) b (state_of mid))
    (λ y s. appended no_bits (place_of a) (place_of b) at (value_in (envs_of mid) x) y s))
append_first old mid left env a b at x is g =
    value_behind old mid left env a x (λ x s. after (run_of no_bits left (env_in (envs_of old) env) b s)
    (λ y s. appended no_bits (place_of a) (place_of b) at x y s)) is g

pub append_second : (old mid later : Machine) (left env : ℕ) (a b : Tree) (at : Place) (x y : Value) → IsMachine old → env ≤ length old.bindings.items
    → Goes old mid (run_of no_bits left (env_in (envs_of old) env) a (state_of old)) x
    → Goes mid later (run_of no_bits left (env_in (envs_of mid) env) b (state_of mid)) y
    → Through old later (term_of no_bits (run_of no_bits left) (env_in (envs_of old) env) (append a b at) (state_of old))
    (appended no_bits (place_of a) (place_of b) at (value_in (envs_of later) x) (value_in (envs_of later) y) (state_of later))
append_second old mid later left env a b at x y is h g k =
    let k2 : Goes mid later (run_of no_bits left (env_in (envs_of old) env) b (state_of mid)) y = goes_in
    (λ e. run_of no_bits left e b (state_of mid)) old mid later env y g.does.grows h k in
    same_rest _ (ap (λ (v : runs.Value). appended no_bits (place_of a) (place_of b) at v (value_in (envs_of later) y) (state_of later))
    (sym (grown_value mid later x k.does.grows g.made)))
    (step (λ y s. appended no_bits (place_of a) (place_of b) at (value_in (envs_of mid) x) y s) (append_first old mid left env a b at x is g) k2.does)

pub append_stuck : (old mid : Machine) (left env : ℕ) (a b : Tree) (at : Place) (x : Value) (fault : RunFault) → IsMachine old
    → env ≤ length old.bindings.items
    → Goes old mid (run_of no_bits left (env_in (envs_of old) env) a (state_of old)) x
    → Says fault (run_of no_bits left (env_in (envs_of mid) env) b (state_of mid))
    → Says fault (term_of no_bits (run_of no_bits left) (env_in (envs_of old) env) (append a b at) (state_of old))
append_stuck old mid left env a b at x fault is h g s =
    said fault (append_first old mid left env a b at x is g)
    (said_first fault (run_of no_bits left (env_in (envs_of old) env) b (state_of mid))
    (λ y s. appended no_bits (place_of a) (place_of b) at (value_in (envs_of mid) x) y s)
    (says_in (λ e. run_of no_bits left e b (state_of mid)) old mid env fault g.does.grows h s))

-- ---- functions

pub record InApply (old now : Machine) (left : ℕ) (e : Environment) (ts : List Tree) (v : Value) (whole : Going runs.Value) : Type 0 where
  pub through : Through old now whole (apply_all no_bits (run_of no_bits left) e ts (value_in (envs_of now) v) (state_of now))
  pub made : IsValue (length now.bindings.items) v

pub apply_begun : (old mid : Machine) (left env : ℕ) (t : Tree) (ts : List Tree) (v : Value) → IsMachine old
    → Goes old mid (run_of no_bits left (env_in (envs_of old) env) t (state_of old)) v
    → InApply old mid left (env_in (envs_of old) env) ts v
    (term_of no_bits (run_of no_bits left) (env_in (envs_of old) env) (apply t (trees ts)) (state_of old))
apply_begun old mid left env t ts v is g = record {
  through = same_rest _ (ap (λ (x : List Tree). apply_all no_bits (run_of no_bits left) (env_in (envs_of old) env) x (value_in (envs_of mid) v)
      (state_of mid)) (list_of-trees ts))
      (value_behind old mid left env t v (apply_all no_bits (run_of no_bits left) (env_in (envs_of old) env) (list_of (trees ts))) is g);
  made = g.made;
}

apply_next : (left : ℕ) (e : Environment) (t : Tree) (ts : List Tree) (v : runs.Value) (s : State (Unit {0}))
    → apply_all no_bits (run_of no_bits left) e (t ∷ ts) v s ≡ after (argument_step (run_of no_bits left) e v t s)
    (apply_all no_bits (run_of no_bits left) e ts)
apply_next left e t ts v s = sym (regroup (run_of no_bits left e t s) (λ argument s. apply_to no_bits (run_of no_bits left) (place_of t) v argument s)
    (apply_all no_bits (run_of no_bits left) e ts))

pub apply_more : (old now later : Machine) (left env : ℕ) (t : Tree) (ts us : List Tree) (v w : Value) (whole : Going runs.Value)
    → env ≤ length old.bindings.items → us ≡ t ∷ ts
    → InApply old now left (env_in (envs_of old) env) us v whole
    → Goes now later (argument_step (run_of no_bits left) (env_in (envs_of now) env) (value_in (envs_of now) v) t (state_of now)) w
    → InApply old later left (env_in (envs_of old) env) ts w whole
apply_more old now later left env t ts us v w whole h cut i g = record {
  through = step (apply_all no_bits (run_of no_bits left) (env_in (envs_of old) env) ts)
      (same_rest _ (ap (λ (x : List Tree). apply_all no_bits (run_of no_bits left) (env_in (envs_of old) env) x (value_in (envs_of now) v) (state_of now)) cut
      ∙ apply_next left (env_in (envs_of old) env) t ts (value_in (envs_of now) v) (state_of now)) i.through)
      (goes_in (λ e. argument_step (run_of no_bits left) e (value_in (envs_of now) v) t (state_of now)) old now later env w i.through.grows h g).does;
  made = g.made;
}

pub apply_stuck : (old now : Machine) (left env : ℕ) (t : Tree) (ts us : List Tree) (v : Value) (whole : Going runs.Value) (fault : RunFault)
    → env ≤ length old.bindings.items → us ≡ t ∷ ts
    → InApply old now left (env_in (envs_of old) env) us v whole
    → Says fault (argument_step (run_of no_bits left) (env_in (envs_of now) env) (value_in (envs_of now) v) t (state_of now)) → Says fault whole
apply_stuck old now left env t ts us v whole fault h cut i s =
    said fault (same_rest _ (ap (λ (x : List Tree). apply_all no_bits (run_of no_bits left) (env_in (envs_of old) env) x (value_in (envs_of now) v)
    (state_of now)) cut ∙ apply_next left (env_in (envs_of old) env) t ts (value_in (envs_of now) v) (state_of now)) i.through)
    (said_first fault _ (apply_all no_bits (run_of no_bits left) (env_in (envs_of old) env) ts)
    (says_in (λ e. argument_step (run_of no_bits left) e (value_in (envs_of now) v) t (state_of now)) old now env fault i.through.grows h s))

pub apply_done : (old now : Machine) (left : ℕ) (e : Environment) (us : List Tree) (v : Value) (whole : Going runs.Value) → us ≡ []
    → InApply old now left e us v whole → Goes old now whole v
apply_done old now left e us v whole none i = record {
  does = ends_here (value_in (envs_of now) v) i.through
      (ap (λ (x : List Tree). apply_all no_bits (run_of no_bits left) e x (value_in (envs_of now) v) (state_of now)) none);
  made = i.made;
}

pub argument_run : (old mid : Machine) (left env : ℕ) (t : Tree) (v x : Value) → IsMachine old → IsValue (length old.bindings.items) v
    → Goes old mid (run_of no_bits left (env_in (envs_of old) env) t (state_of old)) x
    → Through old mid (argument_step (run_of no_bits left) (env_in (envs_of old) env) (value_in (envs_of old) v) t (state_of old))
    (apply_to no_bits (run_of no_bits left) (place_of t) (value_in (envs_of mid) v) (value_in (envs_of mid) x) (state_of mid))
argument_run old mid left env t v x is made g =
    same_rest _ (ap (λ (w : runs.Value). apply_to no_bits (run_of no_bits left) (place_of t) w (value_in (envs_of mid) x) (state_of mid))
    (sym (grown_value old mid v g.does.grows made)))
    (value_behind old mid left env t x (λ argument s. apply_to no_bits (run_of no_bits left) (place_of t) (value_in (envs_of old) v) argument s) is g)

-- ---- names of a function

no_name : (left : ℕ) (at : Place) (ns : List Name) (body : Tree) (e : Environment) (v : runs.Value) (s : State (Unit {0})) → length ns ≡ 0
    → apply_to no_bits (run_of no_bits left) at (runs.closure ns body e) v s ≡ stuck causes.NotFunction at
no_name left at [] body e v s h = refl
no_name left at (n ∷ ns) body e v s h = absurd (omega arith)

last_name : (left : ℕ) (at : Place) (ns : List Name) (body : Tree) (e : Environment) (v : runs.Value) (s : State (Unit {0})) → length ns ≡ 1
    → apply_to no_bits (run_of no_bits left) at (runs.closure ns body e) v s ≡ after (bind_step v e at s) (λ f s. run_of no_bits left f body s)
last_name left at [] body e v s h = absurd (omega arith)
last_name left at (n ∷ []) body e v s h = sym
    (regroup (worked no_bits (bound_length v) at s) (λ _ s. went (bound v e) s) (λ f s. run_of no_bits left f body s))
last_name left at (n ∷ m ∷ ns) body e v s h = absurd (omega arith)

next_name : (left : ℕ) (at : Place) (ns : List Name) (body : Tree) (e : Environment) (v : runs.Value) (s : State (Unit {0})) → 1 < length ns
    → apply_to no_bits (run_of no_bits left) at (runs.closure ns body e) v s ≡ after (bind_step v e at s) (λ f s. went (runs.closure (drop 1 ns) body f) s)
next_name left at [] body e v s h = absurd (omega arith)
next_name left at (n ∷ []) body e v s h = absurd (omega arith)
next_name left at (n ∷ m ∷ ns) body e v s h = sym
    (regroup (worked no_bits (bound_length v) at s) (λ _ s. went (bound v e) s) (λ f s. went (runs.closure (m ∷ ns) body f) s))

drop_more : {A : Type 0} (xs : List A) (k : ℕ) → drop 1 (drop k xs) ≡ drop (k + 1) xs
drop_more [] zero = refl
drop_more [] (suc k) = let e : suc k + 1 ≡ suc (k + 1) = omega arith in ap (λ (n : ℕ). drop n []) (sym e)
drop_more (x ∷ xs) zero = refl
drop_more (x ∷ xs) (suc k) = let e : suc k + 1 ≡ suc (k + 1) = omega arith in drop_more xs k ∙ ap (λ (n : ℕ). drop n (x ∷ xs)) (sym e)

drop_length : {A : Type 0} (xs : List A) (k : ℕ) → length (drop k xs) ≡ length xs - k
drop_length [] zero = refl
drop_length [] (suc k) = omega arith
drop_length (x ∷ xs) zero = omega arith
drop_length (x ∷ xs) (suc k) = drop_length xs k ∙ omega arith

-- ---- calls

bind_first : (left : ℕ) (at : Place) (ns : List Name) (body : Tree) (e : Environment) (v : runs.Value) (s : State (Unit {0})) (fault : RunFault)
    → 0 < length ns
    → Says fault (bind_step v e at s) → Says fault (apply_to no_bits (run_of no_bits left) at (runs.closure ns body e) v s)
bind_first left at [] body e v s fault h says = absurd (omega arith)
bind_first left at (n ∷ []) body e v s fault h says = said_same fault _ _ (last_name left at (n ∷ []) body e v s refl)
    (said_first fault (bind_step v e at s) (λ f s. run_of no_bits left f body s) says)
bind_first left at (n ∷ m ∷ ns) body e v s fault h says =
    said_same fault _ _ (next_name left at (n ∷ m ∷ ns) body e v s (omega arith))
    (said_first fault (bind_step v e at s) (λ f s. went (runs.closure (m ∷ ns) body f) s) says)

pub call_stuck : (left : ℕ) (at : Place) (names : List Name) (taken : ℕ) (body : Tree) (e : Environment) (v : runs.Value) (s : State (Unit {0}))
    (fault : RunFault) → taken < length names
    → Says fault (bind_step v e at s) → Says fault (apply_to no_bits (run_of no_bits left) at (runs.closure (drop taken names) body e) v s)
call_stuck left at names taken body e v s fault h says = bind_first left at (drop taken names) body e v s fault (omega (arith, drop_length names taken)) says

-- one more binding stands before what is left of a call
pub record Called (old now : Machine) (whole rest : Going runs.Value) : Type 0 where
  pub same : whole ≡ rest
  pub grows : Grows old now
  pub worked : AreWorkedFor 1 old now

pub call_ends : {old now later : Machine} {whole rest : Going runs.Value} {v : Value} → Called old now whole rest → Goes now later rest v
    → Calls old later whole v
call_ends {old} {now} {later} c g = record {
  goes = c.same ∙ g.does.goes;
  grows = grows_trans old now later c.grows g.does.grows;
  kept = g.does.kept;
  worked = omega (arith, c.worked, g.does.worked);
  made = g.made;
}

pub call_said : {old now : Machine} {whole rest : Going runs.Value} (fault : RunFault) → Called old now whole rest → Says fault rest → Says fault whole
call_said {old} {now} {whole} {rest} fault c says = said_same fault whole rest c.same says

pub call_last : (old mid : Machine) (left inner : ℕ) (at : Place) (names : List Name) (taken : ℕ) (body : Tree) (e : Environment) (v : runs.Value)
    → length names ≡ taken + 1
    → BindsOne old mid (bind_step v e at (state_of old)) inner
    → Called old mid (apply_to no_bits (run_of no_bits left) at (runs.closure (drop taken names) body e) v (state_of old))
    (run_of no_bits left (env_in (envs_of mid) inner) body (state_of mid))
call_last old mid left inner at names taken body e v h b = record {
  same = last_name left at (drop taken names) body e v (state_of old) (drop_length names taken ∙ omega arith)
      ∙ ap (λ (o : Going Environment). after o (λ f s. run_of no_bits left f body s)) b.goes;
  grows = b.grows;
  worked = b.worked;
}

pub call_next : (old mid : Machine) (left inner : ℕ) (at : Place) (names : List Name) (taken : ℕ) (body : Tree) (e : Environment) (v : runs.Value)
    → taken + 1 < length names
    → BindsOne old mid (bind_step v e at (state_of old)) inner
    → apply_to no_bits (run_of no_bits left) at (runs.closure (drop taken names) body e) v (state_of old) ≡ went
    (runs.closure (drop (taken + 1) names) body (env_in (envs_of mid) inner)) (state_of mid)
call_next old mid left inner at names taken body e v h b =
    next_name left at (drop taken names) body e v (state_of old) (omega (arith, drop_length names taken))
    ∙ ap (λ (o : Going Environment). after o (λ f s. went (runs.closure (drop 1 (drop taken names)) body f) s)) b.goes
    ∙ ap (λ (ns : List Name). went (runs.closure ns body (env_in (envs_of mid) inner)) (state_of mid)) (drop_more names taken)

-- ---- items

pub item_bound : (old mid later : Machine) (left env made : ℕ) (name : Name) (t : Tree) (v : Value) → IsMachine old → env ≤ length old.bindings.items
    → Goes old mid (run_of no_bits left (env_in (envs_of old) env) t (state_of old)) v
    → LeavesRoom old mid
    → BindsOne mid later (bind_step (value_in (envs_of mid) v) (env_in (envs_of mid) env) (place_of t) (state_of mid)) made
    → Binds old later (item_step (run_of no_bits left) (env_in (envs_of old) env) (bind name t) (state_of old)) made
item_bound old mid later left env made name t v is h g room b =
    let e : Environment = env_in (envs_of old) env in
    let b2 : BindsOne mid later (bind_step (value_in (envs_of mid) v) e (place_of t) (state_of mid)) made =
    subst (λ (e : Environment). BindsOne mid later (bind_step (value_in (envs_of mid) v) e (place_of t) (state_of mid)) made)
    (grown_env old mid env g.does.grows h) b in
    let there = step (λ value s. bind_step value e (place_of t) s) (begun old _ _ refl is) g.does in
    record {
      does = ends_here _ (step_bound (λ f s. went f s)
          (same_rest _ (after_went (bind_step (value_in (envs_of mid) v) e (place_of t) (state_of mid))) there) room b2) refl;
      made = b2.made;
    }

pub item_run : (old mid : Machine) (left env : ℕ) (t : Tree) (v : Value) → IsMachine old → env ≤ length old.bindings.items
    → Goes old mid (run_of no_bits left (env_in (envs_of old) env) t (state_of old)) v
    → Binds old mid (item_step (run_of no_bits left) (env_in (envs_of old) env) (run t) (state_of old)) env
item_run old mid left env t v is h g = record {
  does = ends_here (env_in (envs_of mid) env)
      (step (λ _ s. went (env_in (envs_of old) env) s)
      (begun old (item_step (run_of no_bits left) (env_in (envs_of old) env) (run t) (state_of old)) _ refl is) g.does)
      (ap (λ (e : Environment). went e (state_of mid)) (sym (grown_env old mid env g.does.grows h)));
  made = omega (arith, grown_length old mid g.does.grows);
}

-- ---- a block's term

pub block_term : (left : ℕ) (e : Environment) (is js : List ItemTree) (last end : Tree) (at : Place) (s : State (Unit {0})) (t : Tree)
    → t ≡ block (item_trees is) last at → js ≡ is → end ≡ last
    → term_of no_bits (run_of no_bits left) e t s ≡ block_of no_bits (run_of no_bits left) e js end s
block_term left e is js last end at s t cut i l =
    ap (λ (x : Tree). term_of no_bits (run_of no_bits left) e x s) cut ∙ block_is left e is last at s
    ∙ ap (λ (x : List ItemTree). block_of no_bits (run_of no_bits left) e x last s) (sym i) ∙ ap
    (λ (x : Tree). block_of no_bits (run_of no_bits left) e js x s) (sym l)

-- ---- a bit

pub bit_ends : (old mid : Machine) (left env location : ℕ) (t : Tree) (v : Value) → IsMachine old
    → Goes old mid (run_of no_bits left (env_in (envs_of old) env) t (state_of old)) v → IsBitAt v location
    → Does old mid (bit_of no_bits (run_of no_bits left) (env_in (envs_of old) env) t (state_of old)) location
bit_ends old mid left env location t v is g b =
    ends_here location (step (λ value s. as_bit no_bits (place_of t) value s) (begun old _ _ refl is) g.does)
    (ap (λ (x : ValueView). as_bit no_bits (place_of t) (spec_value (envs_of mid) x) (state_of mid)) b.is)

no_bit : (envs : List Environment) (v : ValueView) (at : Place) (s : State (Unit {0})) → values.bit_of v ≡ None
    → Says (faults.Stuck causes.NotBit at) (as_bit no_bits at (spec_value envs v) s)
no_bit envs values.unit at s e = record { stuck = refl }
no_bit envs (values.bit l) at s e = absurd (cc)
no_bit envs (values.register ls) at s e = record { stuck = refl }
no_bit envs (values.number k) at s e = record { stuck = refl }
no_bit envs (values.function n k of) at s e = record { stuck = refl }

pub bit_stuck : (old mid : Machine) (left env : ℕ) (t : Tree) (v : Value) (fault : RunFault) → IsMachine old
    → Goes old mid (run_of no_bits left (env_in (envs_of old) env) t (state_of old)) v → NoBitAt v (place_of t) fault
    → Says fault (bit_of no_bits (run_of no_bits left) (env_in (envs_of old) env) t (state_of old))
bit_stuck old mid left env t v fault is g b =
    said fault (step (λ value s. as_bit no_bits (place_of t) value s) (begun old _ _ refl is) g.does)
    (rw b.fault_is (no_bit (envs_of mid) (seen v) (place_of t) (state_of mid) b.is))

-- ---- the first step of a term, and a binding, that are stuck

pub item_stuck : (old mid : Machine) (left env : ℕ) (name : Name) (t : Tree) (v : Value) (fault : RunFault) → IsMachine old
    → env ≤ length old.bindings.items → Goes old mid (run_of no_bits left (env_in (envs_of old) env) t (state_of old)) v
    → Says fault (bind_step (value_in (envs_of mid) v) (env_in (envs_of mid) env) (place_of t) (state_of mid))
    → Says fault (item_step (run_of no_bits left) (env_in (envs_of old) env) (bind name t) (state_of old))
item_stuck old mid left env name t v fault is h g says =
    said fault (step (λ value s. bind_step value (env_in (envs_of old) env) (place_of t) s) (begun old _ _ refl is) g.does)
    (says_in (λ e. bind_step (value_in (envs_of mid) v) e (place_of t) (state_of mid)) old mid env fault g.does.grows h says)

-- ---- names

pub named_goes : (m : Machine) (left env : ℕ) (name : Name) (t : Tree) (r : Result Value RunFault) → t ≡ used name → IsMachine m
    → IfOk r (λ v. value_in (envs_of m) v ≡ value_at (env_in (envs_of m) env) name.back) → IfOk r (λ v. IsValue (length m.bindings.items) v)
    → IfErr r (λ fault. fault ≡ faults.Memory _) → Follows (Goes m m) (term_of no_bits (run_of no_bits left) (env_in (envs_of m) env) t (state_of m)) r
named_goes m left env name t (Ok v) cut is e made s = record {
  does = ends_here (value_in (envs_of m) v) (begun m _ _ refl is)
      (ap (λ (x : Tree). term_of no_bits (run_of no_bits left) (env_in (envs_of m) env) x (state_of m)) cut
      ∙ ap (λ (x : runs.Value). went x (state_of m)) (sym e));
  made = made;
}
named_goes m left env name t (Err fault) cut is e made s = memory_says fault _ s

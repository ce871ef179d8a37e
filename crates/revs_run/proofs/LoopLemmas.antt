-- A `for`, as the machine runs it.
use Rattle.std.proofs.Common.{◌≡◌, ℕ, zero, suc, ◌+◌, ◌-◌, ◌<◌, ◌≤◌, List, length, take, refl, sym, ap, ◌∙◌, subst, arith}
use Rattle.std.specs.Prelude.{ℤ, pos, ◌+ℤ◌, Result, Ok, Err}
use Rattle.std.proofs.lemmas.List.{take_at}
use Rattle.revc_base.specs.declared.place.Place.{Place}
use Rattle.revs_tape.specs.Tapes.{TapeView}
use Rattle.revs_terms.specs.declared.term.Name.{Name}
use Rattle.revs_terms.specs.declared.term.Step.{Step}
use Rattle.revs_terms.specs.Trees.{ItemTree, item_trees, run, loop}
use Rattle.revs_terms.specs.Running as runs
use Rattle.revs_terms.specs.Running.{Environment, State, number, bound, went, after, turns, worked, number_of, items_run, turn_of, turns_of, run_of}
use Rattle.revs_terms.specs.Runs.{no_bits}
use Rattle.array_shapes.specs.declared.value.Value.{Value}
use Rattle.array_shapes.specs.Values as views
use Rattle.array_shapes.specs.Values.{ValueView, seen}
use Rattle.revs_run.specs.declared.fault.RunFault.{RunFault}
use Rattle.revs_run.specs.declared.machine.Machine.{Machine}
use Rattle.revs_run.specs.inside.Machines.{env_in, envs_of, spec_value, state_of, IsMachine, Does, Goes, Binds, BindsOne, LeavesRoom, Passes}
use Rattle.revs_run.specs.inside.Machines.{Grows, Forgets, Settles, IsValueView}
use Rattle.revs_run.specs.inside.Calls.{Going, Says, Follows, item_step}
use Rattle.revs_run.specs.inside.Numbers.{loop_run}
use Rattle.revs_run.proofs.FaultLemmas.{said_first, said_same}
use Rattle.revs_run.proofs.EnvironmentLemmas.{grown_env, grown_length, grows_same, grows_trans}
use Rattle.revs_run.proofs.ProgressLemmas.{Through, begun, step, step_bound, same_rest, ends, ends_here, said, does_in, says_in, items_of-item_trees}
use Rattle.revs_run.proofs.CallLemmas.{item_run}

-- ---- the tree of a `for`

loop_is : (left : ℕ) (e : Environment) (name : Name) (a b : List Step) (is : List ItemTree) (at : Place) (s : State (Unit {0}))
    → run_of no_bits left e (loop name a b (item_trees is) at) s ≡ loop_run left e a b is at s
loop_is zero e name a b is at s = refl
loop_is (suc left) e name a b is at s =
    ap (λ (x : List ItemTree). after (worked no_bits 1 at s) (λ _ s. after (number_of no_bits e a s) (λ first s. after (number_of no_bits e b s)
    (λ last s. turns_of no_bits (run_of no_bits left) e x at first (turns first last) s)))) (items_of-item_trees is)

pub item_loop : (old now : Machine) (left env : ℕ) (name : Name) (a b : List Step) (is js : List ItemTree) (at : Place) (v : Value) → js ≡ is
    → IsMachine old → env ≤ length old.bindings.items
    → Goes old now (loop_run left (env_in (envs_of old) env) a b js at (state_of old)) v
    → Binds old now (item_step (run_of no_bits left) (env_in (envs_of old) env) (run (loop name a b (item_trees is) at)) (state_of old)) env
item_loop old now left env name a b is js at v same m h g =
    let whole : run_of no_bits left (env_in (envs_of old) env) (loop name a b (item_trees is) at) (state_of old) ≡ loop_run left
    (env_in (envs_of old) env) a b js at (state_of old) = loop_is left (env_in (envs_of old) env) name a b is at (state_of old)
    ∙ ap (λ (x : List ItemTree). loop_run left (env_in (envs_of old) env) a b x at (state_of old)) (sym same) in
    item_run old now left env (loop name a b (item_trees is) at) v m h
    (subst (λ (o : Going runs.Value). Goes old now o v) (sym whole) g)

pub item_loop_stuck : (left : ℕ) (e : Environment) (name : Name) (a b : List Step) (is js : List ItemTree) (at : Place) (s : State (Unit {0}))
    (fault : RunFault) → js ≡ is → Says fault (loop_run left e a b js at s)
    → Says fault (item_step (run_of no_bits left) e (run (loop name a b (item_trees is) at)) s)
item_loop_stuck left e name a b is js at s fault same says =
    said_first fault _ _ (said_same fault _ _ (loop_is left e name a b is at s
    ∙ ap (λ (x : List ItemTree). loop_run left e a b x at s) (sym same)) says)

-- ---- a `for` up to its turns

loop_at : (old mid : Machine) (k : ℕ) (e : Environment) (a b : List Step) (is : List ItemTree) (at : Place) → IsMachine old
    → Does old mid (worked no_bits 1 at (state_of old)) tt
    → Through old mid (loop_run (suc k) e a b is at (state_of old)) (after (number_of no_bits e a (state_of mid)) (λ first s.
    after (number_of no_bits e b s) (λ last s. turns_of no_bits (run_of no_bits k) e is at first (turns first last) s)))
loop_at old mid k e a b is at m d =
    step (λ _ s. after (number_of no_bits e a s) (λ first s.
    after (number_of no_bits e b s) (λ last s. turns_of no_bits (run_of no_bits k) e is at first (turns first last) s))) (begun old _ _ refl m) d

loop_entered : (old mid : Machine) (left : ℕ) (e : Environment) (a b : List Step) (is : List ItemTree) (at : Place) → IsMachine old → 0 < left
    → Does old mid (worked no_bits 1 at (state_of old)) tt
    → Through old mid (loop_run left e a b is at (state_of old)) (after (number_of no_bits e a (state_of mid)) (λ first s.
    after (number_of no_bits e b s) (λ last s. turns_of no_bits (run_of no_bits (left - 1)) e is at first (turns first last) s)))
loop_entered old mid left e a b is at m some d =
    let k : left ≡ suc (left - 1) = omega arith in
    subst (λ (n : ℕ). Through old mid (loop_run n e a b is at (state_of old)) (after (number_of no_bits e a (state_of mid)) (λ first s.
    after (number_of no_bits e b s) (λ last s. turns_of no_bits (run_of no_bits (left - 1)) e is at first (turns first last) s)))) (sym k)
    (loop_at old mid (left - 1) e a b is at m d)

loop_first : (old mid now : Machine) (left env : ℕ) (a b : List Step) (is : List ItemTree) (at : Place) (first : ℤ) → IsMachine old → 0 < left
    → env ≤ length old.bindings.items → Does old mid (worked no_bits 1 at (state_of old)) tt
    → Does mid now (number_of no_bits (env_in (envs_of mid) env) a (state_of mid)) first
    → Through old now (loop_run left (env_in (envs_of old) env) a b is at (state_of old))
    (after (number_of no_bits (env_in (envs_of old) env) b (state_of now))
    (λ last s. turns_of no_bits (run_of no_bits (left - 1)) (env_in (envs_of old) env) is at first (turns first last) s))
loop_first old mid now left env a b is at first m some h d g =
    let e : Environment = env_in (envs_of old) env in
    step (λ first s. after (number_of no_bits e b s) (λ last s. turns_of no_bits (run_of no_bits (left - 1)) e is at first (turns first last) s))
    (loop_entered old mid left e a b is at m some d) (does_in (λ x. number_of no_bits x a (state_of mid)) old mid now env first d.grows h g)

pub loop_begun : (old mid now later : Machine) (left env : ℕ) (a b : List Step) (is : List ItemTree) (at : Place) (first last : ℤ) → IsMachine old
    → 0 < left → env ≤ length old.bindings.items → Does old mid (worked no_bits 1 at (state_of old)) tt
    → Does mid now (number_of no_bits (env_in (envs_of mid) env) a (state_of mid)) first
    → Does now later (number_of no_bits (env_in (envs_of now) env) b (state_of now)) last
    → Through old later (loop_run left (env_in (envs_of old) env) a b is at (state_of old))
    (turns_of no_bits (run_of no_bits (left - 1)) (env_in (envs_of later) env) is at first (turns first last) (state_of later))
loop_begun old mid now later left env a b is at first last m some h d f g =
    let e : Environment = env_in (envs_of old) env in
    let both = step (λ last s. turns_of no_bits (run_of no_bits (left - 1)) e is at first (turns first last) s)
    (loop_first old mid now left env a b is at first m some h d f)
    (does_in (λ x. number_of no_bits x b (state_of now)) old now later env last (grows_trans old mid now d.grows f.grows) h g) in
    same_rest _ (ap (λ (x : Environment). turns_of no_bits (run_of no_bits (left - 1)) x is at first (turns first last) (state_of later))
    (sym (grown_env old later env both.grows h))) both

-- ---- a `for` that is stuck before its turns

pub loop_no_last : (old mid now : Machine) (left env : ℕ) (a b : List Step) (is : List ItemTree) (at : Place) (first : ℤ) (fault : RunFault)
    → IsMachine old → 0 < left → env ≤ length old.bindings.items → Does old mid (worked no_bits 1 at (state_of old)) tt
    → Does mid now (number_of no_bits (env_in (envs_of mid) env) a (state_of mid)) first
    → Says fault (number_of no_bits (env_in (envs_of now) env) b (state_of now))
    → Says fault (loop_run left (env_in (envs_of old) env) a b is at (state_of old))
loop_no_last old mid now left env a b is at first fault m some h d f says =
    said fault (loop_first old mid now left env a b is at first m some h d f)
    (said_first fault _ _ (says_in (λ x. number_of no_bits x b (state_of now)) old now env fault (grows_trans old mid now d.grows f.grows) h says))

-- ---- the turns

abbrev pub rest_of_turns : ℕ → Environment → List ItemTree → Place → ℤ → ℕ → ℕ → State (Unit {0}) → Going runs.Value
rest_of_turns left e is at first count turn s = turns_of no_bits (run_of no_bits left) e is at (first +ℤ pos turn) (count - turn) s

-- one turn, and then the others
turns_next : (left : ℕ) (e : Environment) (is : List ItemTree) (at : Place) (first : ℤ) (count turn : ℕ) (s : State (Unit {0})) → turn < count
    → rest_of_turns left e is at first count turn s ≡ after (turn_of no_bits (run_of no_bits left) e is at (first +ℤ pos turn) s)
    (λ _ s. rest_of_turns left e is at first count (turn + 1) s)
turns_next left e is at first count turn s below =
    let more : count - turn ≡ suc (count - (turn + 1)) = omega arith in
    let next : (first +ℤ pos turn) +ℤ pos 1 ≡ first +ℤ pos (turn + 1) = grind arith in
    ap (λ (n : ℕ). turns_of no_bits (run_of no_bits left) e is at (first +ℤ pos turn) n s) more
    ∙ ap (λ (k : ℤ). after (turn_of no_bits (run_of no_bits left) e is at (first +ℤ pos turn) s)
    (λ _ s. turns_of no_bits (run_of no_bits left) e is at k (count - (turn + 1)) s)) next

pub turns_begun : (m : Machine) (left : ℕ) (e : Environment) (is : List ItemTree) (at : Place) (first : ℤ) (count : ℕ) → IsMachine m
    → Through m m (turns_of no_bits (run_of no_bits left) e is at first count (state_of m)) (rest_of_turns left e is at first count 0 (state_of m))
turns_begun m left e is at first count is-machine =
    let same : first ≡ first +ℤ pos 0 = grind arith in
    let all : count ≡ count - 0 = omega arith in
    begun m _ _ (ap (λ (k : ℤ). turns_of no_bits (run_of no_bits left) e is at k count (state_of m)) same
    ∙ ap (λ (n : ℕ). turns_of no_bits (run_of no_bits left) e is at (first +ℤ pos 0) n (state_of m)) all) is-machine

pub turns_more : (old now later : Machine) (left env : ℕ) (is : List ItemTree) (at : Place) (first k : ℤ) (count turn : ℕ) (whole : Going runs.Value)
    → env ≤ length old.bindings.items → turn < count → k ≡ first +ℤ pos turn
    → Through old now whole (rest_of_turns left (env_in (envs_of old) env) is at first count turn (state_of now))
    → Passes now later (turn_of no_bits (run_of no_bits left) (env_in (envs_of now) env) is at k (state_of now))
    → Through old later whole (rest_of_turns left (env_in (envs_of old) env) is at first count (turn + 1) (state_of later))
turns_more old now later left env is at first k count turn whole h below same t b =
    let e : Environment = env_in (envs_of old) env in
    step (λ _ s. rest_of_turns left e is at first count (turn + 1) s)
    (same_rest _ (turns_next left e is at first count turn (state_of now) below) t)
    (does_in (λ x. turn_of no_bits (run_of no_bits left) x is at (first +ℤ pos turn) (state_of now)) old now later env _ t.grows h
    (subst (λ (z : ℤ). Does now later (turn_of no_bits (run_of no_bits left) (env_in (envs_of now) env) is at z (state_of now)) b.inner)
    same b.does))

pub turns_stuck : (old now : Machine) (left env : ℕ) (is : List ItemTree) (at : Place) (first k : ℤ) (count turn : ℕ) (whole : Going runs.Value)
    (fault : RunFault) → env ≤ length old.bindings.items → turn < count → k ≡ first +ℤ pos turn
    → Through old now whole (rest_of_turns left (env_in (envs_of old) env) is at first count turn (state_of now))
    → Says fault (turn_of no_bits (run_of no_bits left) (env_in (envs_of now) env) is at k (state_of now)) → Says fault whole
turns_stuck old now left env is at first k count turn whole fault h below same t says =
    let e : Environment = env_in (envs_of old) env in
    said fault (same_rest _ (turns_next left e is at first count turn (state_of now) below) t)
    (said_first fault _ _ (says_in (λ x. turn_of no_bits (run_of no_bits left) x is at (first +ℤ pos turn) (state_of now)) old now env fault t.grows h
    (subst (λ (z : ℤ). Says fault (turn_of no_bits (run_of no_bits left) (env_in (envs_of now) env) is at z (state_of now))) same says)))

pub turns_done : (old now : Machine) (left : ℕ) (e : Environment) (is : List ItemTree) (at : Place) (first : ℤ) (count turn : ℕ) (whole : Going runs.Value)
    → count ≤ turn → Through old now whole (rest_of_turns left e is at first count turn (state_of now)) → Does old now whole runs.unit
turns_done old now left e is at first count turn whole all t =
    let none : count - turn ≡ 0 = omega arith in
    ends_here runs.unit t (ap (λ (n : ℕ). turns_of no_bits (run_of no_bits left) e is at (first +ℤ pos turn) n (state_of now)) none)

-- ---- one turn

turn_worked : (old mid : Machine) (left env : ℕ) (is : List ItemTree) (at : Place) (k : ℤ) → IsMachine old
    → Does old mid (worked no_bits 1 at (state_of old)) tt
    → Through old mid (turn_of no_bits (run_of no_bits left) (env_in (envs_of old) env) is at k (state_of old))
    (items_run no_bits (run_of no_bits left) (bound (number k) (env_in (envs_of old) env)) is (state_of mid))
turn_worked old mid left env is at k m d =
    step (λ _ s. items_run no_bits (run_of no_bits left) (bound (number k) (env_in (envs_of old) env)) is s) (begun old _ _ refl m) d

-- the name is bound to the number, for which the turn's work leaves room
pub turn_bound : (old mid now : Machine) (left env inner : ℕ) (is : List ItemTree) (at : Place) (k : ℤ) → IsMachine old
    → env ≤ length old.bindings.items → Does old mid (worked no_bits 1 at (state_of old)) tt → LeavesRoom old mid
    → BindsOne mid now (went (bound (number k) (env_in (envs_of mid) env)) (state_of mid)) inner
    → Through old now (turn_of no_bits (run_of no_bits left) (env_in (envs_of old) env) is at k (state_of old))
    (items_run no_bits (run_of no_bits left) (env_in (envs_of now) inner) is (state_of now))
turn_bound old mid now left env inner is at k m h d room b =
    step_bound (λ f s. items_run no_bits (run_of no_bits left) f is s) (turn_worked old mid left env is at k m d) room
    (subst (λ (e : Environment). BindsOne mid now (went (bound (number k) e) (state_of mid)) inner) (grown_env old mid env d.grows h) b)

-- ---- what was bound is let go

-- the bindings are those from before
forgets_same : (old now later : Machine) (kept : ℕ) → kept ≡ length old.bindings.items → Grows old now → Forgets kept now later
    → later.bindings.items ≡ old.bindings.items
forgets_same old now later kept k g f = f.bindings ∙ ap (take kept) g.bindings ∙ take_at old.bindings.items g.more kept (sym k)

pub does_forgotten : {A : Type 0} (old now later : Machine) (kept : ℕ) (outcome : Going A) (a : A) → IsMachine old → kept ≡ length old.bindings.items
    → Does old now outcome a → Forgets kept now later → Does old later outcome a
does_forgotten old now later kept outcome a m k d f =
    let same : later.bindings.items ≡ old.bindings.items = forgets_same old now later kept k d.grows f in
    let s = f.store in
    let t = f.tape in
    let w = f.work in
    let state : state_of now ≡ state_of later = cc in
    let few : length later.bindings.items ≡ length old.bindings.items = ap length same in
    let grown : length old.bindings.items ≤ length now.bindings.items = grown_length old now d.grows in
    record {
      goes = d.goes ∙ ap (λ (x : State (Unit {0})). went a x) state;
      grows = grows_same old later same (ap (λ (x : TapeView). x.params) t ∙ d.grows.params);
      kept = record {
        made = rw same m.made;
        leaps = rw same m.leaps;
        known = rw (s, t) d.kept.known;
        few = rw (s, t) d.kept.few;
        within = rw w d.kept.within;
        room = omega (arith, few, w, m.room, grown, d.worked);
      };
      worked = omega (arith, few, w, grown, d.worked);
    }

pub turn_passes : (old now later : Machine) (kept env : ℕ) (outcome : Going Environment) → IsMachine old → kept ≡ length old.bindings.items
    → Binds old now outcome env → Forgets kept now later → Passes old later outcome
turn_passes old now later kept env outcome m k b f = record {
  inner = env_in (envs_of now) env;
  does = does_forgotten old now later kept outcome (env_in (envs_of now) env) m k b.does f;
}

settled_view : (old now later : Machine) (kept : ℕ) (outcome : Going runs.Value) (v : ValueView) → IsMachine old → kept ≡ length old.bindings.items
    → Does old now outcome (spec_value (envs_of now) v) → IsValueView (length now.bindings.items) v → Settles kept v now later
    → Does old later outcome (spec_value (envs_of later) v) × IsValueView (length later.bindings.items) v
settled_view old now later kept outcome views.unit m k d h f = (does_forgotten old now later kept outcome runs.unit m k d f, tt)
settled_view old now later kept outcome (views.bit location) m k d h f = (does_forgotten old now later kept outcome (runs.bit location) m k d f, tt)
settled_view old now later kept outcome (views.register locations) m k d h f =
    (does_forgotten old now later kept outcome (runs.register locations) m k d f, tt)
settled_view old now later kept outcome (views.number n) m k d h f = (does_forgotten old now later kept outcome (runs.number n) m k d f, tt)
settled_view old now later kept outcome (views.function env taken of) m k d h f = rw f (d, h)

pub settled : (old now later : Machine) (kept : ℕ) (outcome : Going runs.Value) (value : Value) → IsMachine old → kept ≡ length old.bindings.items
    → Goes old now outcome value → Settles kept (seen value) now later → Goes old later outcome value
settled old now later kept outcome value m k g f =
    let both = settled_view old now later kept outcome (seen value) m k g.does g.made.made f in
    record { does = both.0; made = record { made = both.1 } }

room_forgotten : (old now later : Machine) (kept : ℕ) → kept ≡ length old.bindings.items → Grows old now → LeavesRoom old now
    → Forgets kept now later → LeavesRoom old later
room_forgotten old now later kept k g r f =
    let few : length later.bindings.items ≡ length old.bindings.items = ap length (forgets_same old now later kept k g f) in
    let grown : length old.bindings.items ≤ length now.bindings.items = grown_length old now g in
    let w = f.work in
    omega (arith, few, w, grown, r)

room_of_view : (old now later : Machine) (kept : ℕ) (v : ValueView) → kept ≡ length old.bindings.items → Grows old now → LeavesRoom old now
    → Settles kept v now later → LeavesRoom old later
room_of_view old now later kept (views.function env taken of) k g r f = rw f r
room_of_view old now later kept views.unit k g r f = room_forgotten old now later kept k g r f
room_of_view old now later kept (views.bit location) k g r f = room_forgotten old now later kept k g r f
room_of_view old now later kept (views.register locations) k g r f = room_forgotten old now later kept k g r f
room_of_view old now later kept (views.number n) k g r f = room_forgotten old now later kept k g r f

pub settled_room : (old now later : Machine) (kept : ℕ) (outcome : Going runs.Value) (value : Value) → kept ≡ length old.bindings.items
    → Goes old now outcome value → LeavesRoom old now → Settles kept (seen value) now later → LeavesRoom old later
settled_room old now later kept outcome value k g r f = room_of_view old now later kept (seen value) k g.does.grows r f

pub ends_binds : {old now later : Machine} {whole rest : Going Environment} {env : ℕ} → Through old now whole rest → Binds now later rest env
    → Binds old later whole env
ends_binds t b = record { does = ends t b.does; made = b.made }

pub binds_so : {old now : Machine} (later : Machine) {whole rest : Going Environment} (r : Result ℕ RunFault)
    → Through old now whole rest → Follows (Binds now later) rest r → Follows (Binds old later) whole r
binds_so later (Ok env) t b = ends_binds t b
binds_so later (Err fault) t s = said fault t s

-- A run on its way: what is left of it.
use Rattle.std.proofs.Common.{◌≡◌, ℕ, ◌≤◌, List, [], ◌∷◌, length, refl, ap, ◌∙◌, subst, arith}
use Rattle.std.specs.Prelude.{Result, Ok, Err, IfOk, OnOk, MatchResult}
use Rattle.std.specs.Result.{IsErrAnd, IfErr}
use Rattle.std.proofs.lemmas.Result.{MatchResult-from_both}
use Rattle.revc_base.proofs.ResultLemmas.{no_value, passes_on}
use Rattle.revs_terms.specs.Trees.{Tree, trees, list_of, ItemTree, item_trees, items_of}
use Rattle.revs_terms.specs.Running as runs
use Rattle.revs_terms.specs.Running.{Environment, State, Outcome, stuck, went, after, worked}
use Rattle.array_shapes.specs.declared.value.Value.{Value}
use Rattle.revs_run.specs.declared.fault.RunFault.{RunFault}
use Rattle.revs_run.specs.declared.machine.Machine.{Machine}
use Rattle.revs_run.specs.inside.Machines.{env_in, envs_of, state_of, IsMachine, AreWorkedFor, LeavesRoom, Grows, Does, Goes, BindsOne, Calls}
use Rattle.revs_run.proofs.FaultLemmas.{said_same}
use Rattle.revs_run.specs.inside.Calls.{Says, Follows}
use Rattle.revs_run.proofs.EnvironmentLemmas.{grows_same, grows_trans, grown_env}

-- ---- results that are passed on

pub on_ok_alone : {T E : Type 0} {P : T → Type 0} (R : E → Type 0) {Q : Type 0} (r : Result T E) → ((x : T) → P x → Q) → MatchResult r P R → OnOk r Q
on_ok_alone R (Ok x) f h = f x h
on_ok_alone R (Err e) f h = tt

-- What the fault of a step that failed says, the exit of its `?` returns.
pub stops : {T : Type 0} {fault : RunFault} (P : T → Type 0) (Q : RunFault → Type 0) (r : Result T RunFault) → IsErrAnd r (λ e. e ≡ fault) → Q fault
    → MatchResult r P Q
stops P Q r e q = MatchResult-from_both r P Q (no_value r P _ e) (passes_on Q r e q)

-- ---- on the way

-- The whole run has come so far that this is left of it.
pub record Through {A : Type 0} (old now : Machine) (whole rest : Outcome (Unit {0}) A) : Type 0 where
  pub same : whole ≡ rest
  pub grows : Grows old now
  pub kept : IsMachine now
  pub worked : AreWorkedFor 0 old now

pub begun : {A : Type 0} (m : Machine) (whole rest : Outcome (Unit {0}) A) → whole ≡ rest → IsMachine m → Through m m whole rest
begun m whole rest e is = record { same = e; grows = grows_same m m refl refl; kept = is; worked = omega arith }

pub step : {A C : Type 0} (next : A → State (Unit {0}) → Outcome (Unit {0}) C) {old now later : Machine} {whole : Outcome (Unit {0}) C}
    {o : Outcome (Unit {0}) A} {a : A}
    → Through old now whole (after o next) → Does now later o a → Through old later whole (next a (state_of later))
step next {old} {now} {later} t d = record {
  same = t.same ∙ ap (λ (x : Outcome (Unit {0}) _). after x next) d.goes;
  grows = grows_trans old now later t.grows d.grows;
  kept = d.kept;
  worked = omega (arith, t.worked, d.worked);
}

pub same_rest : {A : Type 0} {old now : Machine} {whole rest : Outcome (Unit {0}) A} (other : Outcome (Unit {0}) A) → rest ≡ other
    → Through old now whole rest → Through old now whole other
same_rest other e t = record { same = t.same ∙ e; grows = t.grows; kept = t.kept; worked = t.worked }

pub ends : {A : Type 0} {old now later : Machine} {whole rest : Outcome (Unit {0}) A} {a : A} → Through old now whole rest → Does now later rest a
    → Does old later whole a
ends {A} {old} {now} {later} t d = record
    { goes = t.same ∙ d.goes; grows = grows_trans old now later t.grows d.grows; kept = d.kept; worked = omega (arith, t.worked, d.worked) }

pub ends_here : {A : Type 0} {old now : Machine} {whole rest : Outcome (Unit {0}) A} (a : A) → Through old now whole rest → rest ≡ went a (state_of now)
    → Does old now whole a
ends_here a t e = record { goes = t.same ∙ e; grows = t.grows; kept = t.kept; worked = t.worked }

pub ends_goes : {old now later : Machine} {whole rest : Outcome (Unit {0}) runs.Value} {v : Value} → Through old now whole rest → Goes now later rest v
    → Goes old later whole v
ends_goes t g = record { does = ends t g.does; made = g.made }

-- one more binding, for which there is room
pub step_bound : {C : Type 0} (next : Environment → State (Unit {0}) → Outcome (Unit {0}) C) {old now later : Machine} {whole : Outcome (Unit {0}) C}
    {o : Outcome (Unit {0}) Environment} {env : ℕ}
    → Through old now whole (after o next) → LeavesRoom old now → BindsOne now later o env
    → Through old later whole (next (env_in (envs_of later) env) (state_of later))
step_bound next {old} {now} {later} t room b = record {
  same = t.same ∙ ap (λ (x : Outcome (Unit {0}) Environment). after x next) b.goes;
  grows = grows_trans old now later t.grows b.grows;
  kept = b.kept;
  worked = omega (arith, room, b.worked);
}

-- a call, for whose binding there is room
pub ends_calls : {old now later : Machine} {whole rest : Outcome (Unit {0}) runs.Value} {v : Value}
    → Through old now whole rest → LeavesRoom old now → Calls now later rest v → Goes old later whole v
ends_calls {old} {now} {later} t room c = record {
  does = record {
    goes = t.same ∙ c.goes;
    grows = grows_trans old now later t.grows c.grows;
    kept = c.kept;
    worked = omega (arith, room, c.worked);
  };
  made = c.made;
}

pub said : {A : Type 0} {old now : Machine} {whole rest : Outcome (Unit {0}) A} (fault : RunFault) → Through old now whole rest → Says fault rest
    → Says fault whole
said {A} {old} {now} {whole} {rest} fault t says = said_same fault whole rest t.same says

-- ---- answers that follow what is left of a run

pub goes_on_so : {old now : Machine} (later : Machine) {whole rest : Outcome (Unit {0}) runs.Value} (r : Result Value RunFault)
    → Through old now whole rest → Follows (Goes now later) rest r → Follows (Goes old later) whole r
goes_on_so later (Ok v) t g = ends_goes t g
goes_on_so later (Err fault) t s = said fault t s

-- the same, where each of the two is said by a clause of its own
pub does_by : {A : Type 0} {old now : Machine} (later : Machine) {whole rest : Outcome (Unit {0}) A} (r : Result A RunFault)
    → Through old now whole rest → IfOk r (Does now later rest) → IfErr r (λ fault. Says fault rest) → Follows (Does old later) whole r
does_by later (Ok a) t d s = ends t d
does_by later (Err fault) t d s = said fault t s

-- ---- the same environment, later

pub does_in : {A : Type 0} (f : Environment → Outcome (Unit {0}) A) (old now later : Machine) (env : ℕ) (a : A) → Grows old now
    → env ≤ length old.bindings.items
    → Does now later (f (env_in (envs_of now) env)) a → Does now later (f (env_in (envs_of old) env)) a
does_in f old now later env a g h d = subst (λ (e : Environment). Does now later (f e) a) (grown_env old now env g h) d

pub goes_in : (f : Environment → Outcome (Unit {0}) runs.Value) (old now later : Machine) (env : ℕ) (v : Value) → Grows old now
    → env ≤ length old.bindings.items
    → Goes now later (f (env_in (envs_of now) env)) v → Goes now later (f (env_in (envs_of old) env)) v
goes_in f old now later env v g h d = subst (λ (e : Environment). Goes now later (f e) v) (grown_env old now env g h) d

pub says_in : {A : Type 0} (f : Environment → Outcome (Unit {0}) A) (old now : Machine) (env : ℕ) (fault : RunFault) → Grows old now
    → env ≤ length old.bindings.items
    → Says fault (f (env_in (envs_of now) env)) → Says fault (f (env_in (envs_of old) env))
says_in f old now env fault g h s = subst (λ (e : Environment). Says fault (f e)) (grown_env old now env g h) s

-- ---- runs in a row

pub regroup : {A B C : Type 0} (o : Outcome (Unit {0}) A) (f : A → State (Unit {0}) → Outcome (Unit {0}) B) (g : B → State (Unit {0}) → Outcome (Unit {0}) C)
    → after (after o f) g ≡ after o (λ a s. after (f a s) g)
regroup (stuck why at) f g = refl
regroup (went a s) f g = refl

pub same_next : {A C : Type 0} (o : Outcome (Unit {0}) A) (f g : A → State (Unit {0}) → Outcome (Unit {0}) C)
    → ((a : A) (s : State (Unit {0})) → f a s ≡ g a s) → after o f ≡ after o g
same_next (stuck why at) f g e = refl
same_next (went a s) f g e = e a s

pub after_went : {A : Type 0} (o : Outcome (Unit {0}) A) → o ≡ after o (λ a s. went a s)
after_went (stuck why at) = refl
after_went (went a s) = refl

pub list_of-trees : (ts : List Tree) → list_of (trees ts) ≡ ts
list_of-trees [] = refl
list_of-trees (t ∷ ts) = ap (λ (x : List Tree). t ∷ x) (list_of-trees ts)

pub items_of-item_trees : (is : List ItemTree) → items_of (item_trees is) ≡ is
items_of-item_trees [] = refl
items_of-item_trees (i ∷ is) = ap (λ (x : List ItemTree). i ∷ x) (items_of-item_trees is)

-- The machine that runs a program without bits: its environments in one list, in the order in which
-- they were made.
use Rattle.std.specs.Prelude.{◌≡◌, ℕ, zero, suc, ◌+◌, ◌-◌, ◌≤◌, ◌==◌, if◌then◌else◌, slice_get, Option, Some}
use Rattle.std.specs.Prelude.{None, List, [], ◌∷◌, ◌++◌, length, drop, take, map, sum, option_map, slice_index_or}
use Rattle.std.specs.Prelude.{⊤}
use Rattle.std.specs.List.{AllByRecursion}
use Rattle.revs_tape.specs.declared.limits.TheConstants.{MOST_INPUTS}
use Rattle.revs_terms.specs.declared.limits.TheConstants.{MOST_WORK}
use Rattle.revs_tape.specs.declared.tape.Ref.{Ref}
use Rattle.revs_tape.specs.declared.tape.Claim.{Claim}
use Rattle.revs_tape.specs.Tapes.{TapeView, IsKnown}
use Rattle.revs_terms.specs.Trees.{tree_of}
use Rattle.revs_terms.specs.Running as runs
use Rattle.revs_terms.specs.Running.{Environment, nothing, bound, Stamped, Met, State, Outcome, went}
use Rattle.array_shapes.specs.declared.value.Value.{Value}
use Rattle.array_shapes.specs.Values as values
use Rattle.array_shapes.specs.Values.{ValueView, seen}
use Rattle.revs_run.specs.declared.machine.Binding.{Binding}
use Rattle.revs_run.specs.declared.machine.Machine.{Machine}
use Rattle.revs_run.specs.declared.leaps.Leap.{Leap}

-- ---- values and environments, by number

-- the environment with a number: 0 is the empty one, and k + 1 the one in place k
abbrev pub env_in : List Environment → ℕ → Environment
env_in envs zero = nothing
env_in envs (suc k) = slice_index_or envs k nothing

abbrev pub spec_value : List Environment → ValueView → runs.Value
spec_value envs values.unit = runs.unit
spec_value envs (values.bit location) = runs.bit location
spec_value envs (values.register locations) = runs.register locations
spec_value envs (values.number k) = runs.number k
spec_value envs (values.function env taken of) = runs.closure (drop taken of.names.items)
    (tree_of of.body) (env_in envs env)

-- the length that a value counts where it is bound
abbrev pub view_length : ValueView → ℕ
view_length (values.register locations) = length locations
view_length _ = 0

-- the value that a value of the machine stands for
abbrev pub value_in : List Environment → Value → runs.Value
value_in envs value = spec_value envs (seen value)

-- one more binding, on the environments so far
abbrev pub bound_in : List Environment → Binding → Environment
bound_in envs b = bound (value_in envs b.value) (env_in envs b.parent)

-- the environments so far, and those of these bindings
abbrev pub envs_from : List Environment → List Binding → List Environment
envs_from envs [] = envs
envs_from envs (b ∷ bs) = envs_from (envs ++ bound_in envs b ∷ []) bs

-- a value whose environment is one of the first n
abbrev pub IsValueView : ℕ → ValueView → Type 0
IsValueView n (values.function env taken of) = env ≤ n
IsValueView n _ = ⊤

pub record IsValue (n : ℕ) (value : Value) : Type 0 where
  pub made : IsValueView n (seen value)

-- each binding from the n-th on is made of earlier ones
abbrev pub AreBindings : ℕ → List Binding → Type 0
AreBindings n [] = ⊤
AreBindings n (b ∷ bs) = (b.parent ≤ n) × (IsValueView n (seen b.value) × AreBindings (n + 1) bs)

-- the environment so many bindings farther out
abbrev pub farther : ℕ → Environment → Environment
farther zero env = env
farther (suc n) nothing = nothing
farther (suc n) (bound value far) = farther n far

-- The leap leads out of this environment past so many bindings, to one that was made before.
pub record Leaps (envs : List Environment) (env : ℕ) (leap : Leap) : Type 0 where
  pub reached : env_in envs leap.to ≡ farther leap.passed (env_in envs env)
  pub before : leap.to + leap.passed ≤ env

-- the leap of an environment's own binding; the empty environment has none
abbrev pub leap_at : List Binding → ℕ → Option Leap
leap_at bindings env =
    if env == 0 then None
    else option_map (λ (b : Binding). b.leap) (slice_get bindings (env - 1))

-- the leap there, where this one leads
abbrev pub leap_behind : List Binding → Option Leap → Option Leap
leap_behind bindings None = None
leap_behind bindings (Some near) = leap_at bindings near.to

-- two leaps, one behind the other, are one where both pass equally many bindings; else the leap
-- stays
abbrev pub joined_leap : ℕ → Option Leap → Option Leap → Leap
joined_leap env None next = record { to = env; passed = 0 }
joined_leap env (Some near) None = record { to = env; passed = 0 }
joined_leap env (Some near) (Some next) =
    if near.passed == next.passed
    then record { to = next.to; passed = near.passed + next.passed + 2 }
    else record { to = env; passed = 0 }

-- the leap of a binding in this environment
abbrev pub leap_of : List Binding → ℕ → Leap
leap_of bindings env =
    joined_leap env (leap_at bindings env) (leap_behind bindings (leap_at bindings env))

-- each binding has a leap out of its parent
abbrev pub AreLeaps : List Environment → List Binding → Type 0
AreLeaps envs [] = ⊤
AreLeaps envs (b ∷ bs) = Leaps envs b.parent b.leap × AreLeaps (envs ++ bound_in envs b ∷ []) bs

-- ---- the state of a run without bits

abbrev pub held_by : Option Ref → Option (Stamped (Unit {0}))
held_by held = option_map (λ r. record { bit = tt; stamp = r }) held

abbrev pub met_by : Claim → Met (Unit {0})
met_by claim = record { claim = claim; bit = tt }

-- the environments of the machine, in the order in which they were made
abbrev pub envs_of : Machine → List Environment
envs_of m = envs_from [] m.bindings.items

-- the environment with a number, and the value that a value of the machine stands for
abbrev pub env_of : Machine → ℕ → Environment
env_of m env = env_in (envs_of m) env

abbrev pub value_of : Machine → Value → runs.Value
value_of m value = value_in (envs_of m) value

-- the state of the run
abbrev pub state_of : Machine → State (Unit {0})
state_of m = record {
  store = map held_by m.store.items;
  log = m.tape.entries;
  claims = map met_by
      m.tape.claims;
  work = m.work;
}

abbrev pub IsKnownIn : TapeView → Option Ref → Type 0
IsKnownIn tape None = ⊤
IsKnownIn tape (Some r) = IsKnown (sum tape.params) (length tape.entries) r

-- What the machine keeps.
pub record IsMachine (m : Machine) : Type 0 where
  pub made : AreBindings 0 m.bindings.items
  pub leaps : AreLeaps [] m.bindings.items
  pub known : AllByRecursion (IsKnownIn m.tape) m.store.items
  pub few : length m.store.items ≤ MOST_INPUTS + length m.tape.entries
  pub within : m.work ≤ MOST_WORK
  pub room : length m.bindings.items ≤ MOST_INPUTS + m.work

-- ---- what a call of the machine does

-- Bindings were only added.
pub record Grows (old now : Machine) : Type 0 where
  pub more : List Binding
  pub bindings : now.bindings.items ≡ old.bindings.items ++ more
  pub params : now.tape.params ≡ old.tape.params

-- No more bindings were added than units of work, but for so many.
abbrev pub AreWorkedFor : ℕ → Machine → Machine → Type 0
AreWorkedFor ahead old now = length now.bindings.items + old.work ≤ length old.bindings.items +
    now.work + ahead

-- So many units of work were added, and no bindings.
abbrev pub AddsWork : ℕ → Machine → Machine → Type 0
AddsWork count old now =
    length now.bindings.items + old.work + count ≤ length old.bindings.items + now.work

-- More units of work were added than bindings.
abbrev pub LeavesRoom : Machine → Machine → Type 0
LeavesRoom old now = length now.bindings.items + old.work + 1 ≤ length old.bindings.items + now.work

-- The run goes on with this answer.
pub record Does {A : Type 0} (old now : Machine) (outcome : Outcome (Unit {0}) A)
    (answer : A) : Type 0 where
  pub goes : outcome ≡ went answer (state_of now)
  pub grows : Grows old now
  pub kept : IsMachine now
  pub worked : AreWorkedFor 0 old now

-- The run goes on with a value of the machine.
pub record Goes (old now : Machine) (outcome : Outcome (Unit {0}) runs.Value)
    (value : Value) : Type 0 where
  pub does : Does old now outcome (value_in (envs_of now) value)
  pub made : IsValue (length now.bindings.items) value

-- The run goes on with an environment of the machine.
pub record Binds (old now : Machine) (outcome : Outcome (Unit {0}) Environment)
    (env : ℕ) : Type 0 where
  pub does : Does old now outcome (env_in (envs_of now) env)
  pub made : env ≤ length now.bindings.items

-- The run goes on with some environment, of which the machine keeps nothing.
pub record Passes (old now : Machine) (outcome : Outcome (Unit {0}) Environment) : Type 0 where
  pub inner : Environment
  pub does : Does old now outcome inner

-- All bindings but the first so many are let go.
pub record Forgets (kept : ℕ) (old now : Machine) : Type 0 where
  pub bindings : now.bindings.items ≡ take kept old.bindings.items
  pub store : now.store ≡ old.store
  pub tape : now.tape ≡ old.tape
  pub work : now.work ≡ old.work

-- behind a run with this value; a function keeps what it may need
abbrev pub Settles : ℕ → ValueView → (old now : Machine) → Type 0
Settles kept (values.function env taken of) old now = now ≡ old
Settles kept _ old now = Forgets kept old now

-- The run goes on with an environment of the machine, which has one more binding.
pub record BindsOne (old now : Machine) (outcome : Outcome (Unit {0}) Environment)
    (env : ℕ) : Type 0 where
  pub goes : outcome ≡ went (env_in (envs_of now) env) (state_of now)
  pub grows : Grows old now
  pub kept : IsMachine now
  pub worked : AreWorkedFor 1 old now
  pub made : env ≤ length now.bindings.items

-- The run goes on with a value of the machine, behind one more binding.
pub record Calls (old now : Machine) (outcome : Outcome (Unit {0}) runs.Value)
    (value : Value) : Type 0 where
  pub goes : outcome ≡ went (value_in (envs_of now) value) (state_of now)
  pub grows : Grows old now
  pub kept : IsMachine now
  pub worked : AreWorkedFor 1 old now
  pub made : IsValue (length now.bindings.items) value

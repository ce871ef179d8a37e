-- The machine before a program's body is run, and its end.
use Rattle.std.specs.Prelude.{◌≡◌, ℕ, ◌≤◌, Option, Some, None, List, [], length, map, sum, Result, MatchResult, ⊤}
use Rattle.std.specs.List.{AllByRecursion}
use Rattle.revs_tape.specs.declared.limits.TheConstants.{MOST_INPUTS, MOST_OUTPUTS}
use Rattle.revs_tape.specs.declared.tape.Ref.{Ref}
use Rattle.revs_tape.specs.Tapes.{IsKnown}
use Rattle.revs_terms.specs.declared.program.Param.{Param}
use Rattle.revs_terms.specs.Programs.{widths_of}
use Rattle.revc_base.specs.declared.place.Place.{Place}
use Rattle.revs_terms.specs.declared.limits.TheConstants.{MOST_DEPTH}
use Rattle.revs_terms.specs.Terms.{place_of}
use Rattle.revs_terms.specs.Trees.{Tree}
use Rattle.revs_terms.specs.Running.{Environment, Value, nothing, Stamped, State, Outcome, went, after, run_of}
use Rattle.revs_terms.specs.Runs.{start, inputs_from, nothings, from, params_in, no_bits, locations_of, read_all}
use Rattle.array_shapes.specs.Values as values
use Rattle.array_shapes.specs.Values.{ValueView, seen}
use Rattle.revs_run.specs.declared.fault.RunFault.{RunFault}
use Rattle.revs_run.specs.declared.fault.RunFault.TheVariants as faults
use Rattle.revs_run.specs.declared.machine.Binding.{Binding}
use Rattle.revs_run.specs.declared.machine.Machine.{Machine}
use Rattle.revs_run.specs.inside.Machines.{held_by, IsMachine, AreBindings, AreLeaps, Leaps, Grows, envs_from, envs_of, env_of, env_in, state_of}

-- What is made is as it says, or memory is wanting.
abbrev pub Makes : {A : Type 0} → (A → Type 0) → Result A RunFault → Type 0
Makes made result = MatchResult result made (λ fault. fault ≡ faults.Memory _)

-- the value of a parameter whose first input is this one
abbrev pub param_view : ℕ → Option ℕ → ValueView
param_view first None = values.bit first
param_view first (Some width) = values.register (from first width)

abbrev pub IsInputBelow : ℕ → Option Ref → Type 0
IsInputBelow n None = ⊤
IsInputBelow n (Some r) = IsKnown n 0 r

-- the inputs stand in the first locations
pub record AreInputs (n : ℕ) (store : List (Option Ref)) : Type 0 where
  pub held : map held_by store ≡ inputs_from 0 (nothings n)
  pub known : AllByRecursion (IsInputBelow n) store
  pub count : length store ≡ n

-- the binding of a parameter whose first input is this one, behind these bindings
pub record IsParamBinding (bs : List Binding) (first : ℕ) (width : Option ℕ) (b : Binding)
    : Type 0 where
  pub value : seen b.value ≡ param_view first width
  pub parent : b.parent ≡ length bs
  pub leap : Leaps (envs_from [] bs) b.parent b.leap

-- The parameters are bound, the last one nearest.
pub record AreBound (params : List Param) (bs : List Binding) : Type 0 where
  pub are : AreBindings 0 bs
  pub leaps : AreLeaps [] bs
  pub env : env_in (envs_from [] bs) (length bs) ≡ params_in 0 params nothing
  pub count : length bs ≡ length params
  pub few : length bs ≤ MOST_INPUTS

-- The machine is at the start of a program.
pub record IsStart (params : List Param) (m : Machine) : Type 0 where
  pub kept : IsMachine m
  pub state : state_of m ≡ start (nothings (sum (widths_of params)))
  pub env : env_in (envs_of m) (length m.bindings.items) ≡ params_in 0 params nothing
  pub widths : m.tape.params ≡ widths_of params

-- a bit that says nothing, with what made it
abbrev pub stamped : Ref → Stamped (Unit {0})
stamped r = record { bit = tt; stamp = r }

-- ---- the end

-- the outputs of a program's value
abbrev pub outputs_step : Place → Value → State (Unit {0})
    → Outcome (Unit {0}) (List (Stamped (Unit {0})))
outputs_step at value s = after (locations_of at value s) (read_all no_bits at)

-- These made the bits in the locations.
pub record Reads (m : Machine) (locations : List ℕ) (at : Place) (made : List Ref) : Type 0 where
  pub read : read_all no_bits at locations (state_of m) ≡ went (map stamped made) (state_of m)
  pub known : AllByRecursion (IsKnown (sum m.tape.params) (length m.tape.entries)) made
  pub count : length made ≡ length locations

-- These made the outputs.
pub record Outputs (m : Machine) (value : Value) (at : Place) (made : List Ref) : Type 0 where
  pub read : outputs_step at value (state_of m) ≡ went (map stamped made) (state_of m)
  pub known : AllByRecursion (IsKnown (sum m.tape.params) (length m.tape.entries)) made
  pub few : length made ≤ MOST_OUTPUTS

-- a body is run with so many levels of depth, and its outputs are read
abbrev pub body_step : ℕ → Environment → Tree → State (Unit {0})
    → Outcome (Unit {0}) (List (Stamped (Unit {0})))
body_step left env body s = after (run_of no_bits left env body s) (outputs_step (place_of body))

-- The body was run, and these made its outputs.
pub record Ends (old now : Machine) (env : ℕ) (body : Tree) (made : List Ref) : Type 0 where
  pub runs : body_step MOST_DEPTH (env_of old env) body (state_of old)
      ≡ went (map stamped made) (state_of now)
  pub grows : Grows old now
  pub known : AllByRecursion (IsKnown (sum now.tape.params) (length now.tape.entries)) made
  pub few : length made ≤ MOST_OUTPUTS

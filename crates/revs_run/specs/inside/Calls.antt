-- What the calls of the machine do to the run, beside the steps of the language.
use Rattle.std.specs.Prelude.{◌≡◌, ℕ, None, List, ⊤, Result, MatchResult}
use Rattle.revc_base.specs.declared.place.Place.{Place}
use Rattle.revs_tape.specs.declared.tape.Ref.{Ref}
use Rattle.revs_tape.specs.declared.tape.Entry.{Entry}
use Rattle.revs_tape.specs.declared.tape.Entry.TheVariants as entries
use Rattle.revs_tape.specs.Tapes.{TapeView}
use Rattle.revs_terms.specs.declared.cause.Cause.TheVariants as causes
use Rattle.revs_terms.specs.declared.program.Param.{Param}
use Rattle.revs_terms.specs.Trees.{Tree, ItemTree, bind, run, ands, xors, trees}
use Rattle.revs_terms.specs.Terms.{place_of}
use Rattle.revs_terms.specs.Running.{Value, Environment, bound, bound_length, Stamped, State, Outcome, stuck}
use Rattle.revs_terms.specs.Running.{went, RunStep, done, ◌>>=◌, read, written, worked, run_of, term_of, bit_of, apply_to}
use Rattle.revs_terms.specs.Runs.{no_bits, run_without_bits, tape_of}
use Rattle.array_shapes.specs.declared.shapes.ShapeFault.{ShapeFault}
use Rattle.array_shapes.specs.declared.shapes.ShapeFault.TheVariants as shapes
use Rattle.array_shapes.specs.declared.value.Value as machine
use Rattle.array_shapes.specs.Values as values
use Rattle.array_shapes.specs.Values.{seen}
use Rattle.revs_run.specs.declared.fault.RunFault.{RunFault}
use Rattle.revs_run.specs.declared.fault.RunFault.TheVariants as faults
use Rattle.revs_run.specs.declared.machine.Machine.{Machine}
use Rattle.revs_run.specs.declared.operators.Operator.{Operator}
use Rattle.revs_run.specs.declared.operators.Operator.TheVariants as operators
use Rattle.revs_run.specs.declared.terms.Frame.{Frame}
use Rattle.revs_run.specs.inside.Machines.{Goes, env_of, state_of}

-- ---- steps

-- a step of the run without bits
abbrev pub Blind : Type 0 → Type 0
Blind A = RunStep (Unit {0}) A

-- an outcome of the run without bits
abbrev pub Going : Type 0 → Type 0
Going A = Outcome (Unit {0}) A

-- the run of a term one deeper
abbrev pub Deeper : Type 0
Deeper = Environment → Tree → Blind Value

abbrev pub entry_of : Operator → Ref → Ref → Entry
entry_of operators.And = entries.And
entry_of operators.Xor = entries.Xor

abbrev pub chain_tree : Operator → List Tree → Tree
chain_tree operators.And ts = ands (trees ts)
chain_tree operators.Xor ts = xors (trees ts)

-- two bits of a chain, the first read at the place of the chain's first operand
abbrev pub join_step : Operator → ℕ → ℕ → Place → Place → Blind ℕ
join_step op so_far next first at = do
  a ← read no_bits so_far first
  b ← read no_bits next at
  written no_bits (entry_of op a.stamp b.stamp) tt at

-- a bit of a chain with the next operand's
abbrev pub link_step : Deeper → Operator → Environment → Place → ℕ → Tree → Blind ℕ
link_step deeper op env first so_far t = do
  next ← bit_of no_bits deeper env t
  join_step op so_far next first (place_of t)

-- a value is bound, and counts where it is a register
abbrev pub bind_step : Value → Environment → Place → Blind Environment
bind_step value env at = do
  _ ← worked no_bits (bound_length value) at
  done (bound value env)

-- an item of a block or a `for`, to the environment behind it
abbrev pub item_step : Deeper → Environment → ItemTree → Blind Environment
item_step deeper env (bind name t) = do
  value ← deeper env t
  bind_step value env (place_of t)
item_step deeper env (run t) = do
  _ ← deeper env t
  done env

-- a value takes an argument, the value of a term
abbrev pub argument_step : Deeper → Environment → Value → Tree → Blind Value
argument_step deeper env callee t = do
  argument ← deeper env t
  apply_to no_bits deeper (place_of t) callee argument

-- ---- what a fault says

abbrev pub IsStuckAs : {A : Type 0} → RunFault → Going A → Type 0
IsStuckAs (faults.Stuck cause at) outcome = outcome ≡ stuck cause at
IsStuckAs (faults.Memory _) outcome = ⊤

-- The run is stuck as the fault says; want of memory says nothing of the run.
pub record Says {A : Type 0} (fault : RunFault) (outcome : Going A) : Type 0 where
  pub stuck : IsStuckAs fault outcome

-- An answer follows the run: it goes on so with the answer, or is stuck as the fault says.
abbrev pub Follows : {A V : Type 0} → (Going A → V → Type 0) → Going A → Result V RunFault → Type 0
Follows GoesOn outcome answer = MatchResult answer (GoesOn outcome) (λ fault. Says fault outcome)

-- A term of this form is run in a frame, with its parts one deeper.
abbrev pub RunsAs : (old new : Machine) → Frame → Tree → Result machine.Value RunFault → Type 0
RunsAs old new frame tree result =
    Follows (Goes old new) (term_of no_bits (run_of no_bits frame.left) (env_of old frame.env) tree
    (state_of old)) result

-- the fault of a list call, for the term or part at this place
abbrev pub shape_fault : ShapeFault → Place → RunFault
shape_fault shapes.Slice at = faults.Stuck causes.Slice at
shape_fault shapes.Rotate at = faults.Stuck causes.Rotate at
shape_fault shapes.Length at = faults.Stuck causes.Length at
shape_fault (shapes.Memory _) at = faults.Memory _

-- The run of a program without bits leaves this tape.
pub record Leaves (params : List Param) (body : Tree) (tape : TapeView) : Type 0 where
  pub outputs : List (Stamped (Unit {0}))
  pub state : State (Unit {0})
  pub ends : run_without_bits params body ≡ went outputs state
  pub left : tape ≡ tape_of params outputs state

-- ---- bits

-- the value is the bit in a location
pub record IsBitAt (value : machine.Value) (location : ℕ) : Type 0 where
  pub is : seen value ≡ values.bit location

-- the value is no bit, as the fault says
pub record NoBitAt (value : machine.Value) (at : Place) (fault : RunFault) : Type 0 where
  pub is : values.bit_of (seen value) ≡ None
  pub fault_is : fault ≡ faults.Stuck causes.NotBit at

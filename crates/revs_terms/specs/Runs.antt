-- The run of a program on an input, and the tape that it leaves.
use Rattle.std.specs.Prelude.{◌≡◌, ℕ, zero, suc, ◌+◌, ◌≤◌, leb, IsTrue, Bool, ◌&&◌, Option, Some, None, List, [], ◌∷◌, length, map, sum}
use Rattle.std.specs.Bool.{xor}
use Rattle.revs_tape.specs.declared.limits.TheConstants.{MOST_OUTPUTS}
use Rattle.revc_base.specs.declared.place.Place.{Place}
use Rattle.revs_tape.specs.declared.tape.Ref.TheVariants as refs
use Rattle.revs_tape.specs.Tapes.{TapeView, IsTape, bit_on, outputs_on}
use Rattle.revs_terms.specs.declared.limits.TheConstants.{MOST_DEPTH, MOST_RUN_WRITES}
use Rattle.revs_terms.specs.declared.program.Param.{Param}
use Rattle.revs_terms.specs.Programs.{width_of, widths_of, AreParams}
use Rattle.revs_terms.specs.Terms.{place_of, is_formed}
use Rattle.revs_terms.specs.Trees.{Tree}
use Rattle.revs_terms.specs.Running.{Value, bit, register, Environment, nothing, bound, Bits, Stamped, State, Outcome, stuck, went, after, provided, read}
use Rattle.revs_terms.specs.Running.{run_of}
use Rattle.revs_terms.specs.declared.cause.Cause.{Cause}
use Rattle.revs_terms.specs.declared.cause.Cause.TheVariants as causes

-- ---- the start: input i stands in location i

abbrev pub inputs_from : {B : Type 0} → ℕ → List B → List (Option (Stamped B))
inputs_from i [] = []
inputs_from i (b ∷ bs) = Some (record { bit = b; stamp = refs.Input i }) ∷ inputs_from (i + 1) bs

abbrev pub start : {B : Type 0} → List B → State B
start input = record { store = inputs_from 0 input; log = []; claims = []; work = 0 }

-- so many numbers from this one on
abbrev pub from : ℕ → ℕ → List ℕ
from first zero = []
from first (suc count) = first ∷ from (first + 1) count

-- a parameter whose first input is this one: a bit, or a register where it has a length
abbrev pub param_value : ℕ → Option ℕ → Value
param_value first None = bit first
param_value first (Some width) = register (from first width)

-- the parameters from this input on, the last one nearest
abbrev pub params_in : ℕ → List Param → Environment → Environment
params_in first [] env = env
params_in first (p ∷ ps) env = params_in (first + width_of p.width) ps
    (bound (param_value first p.width) env)

-- ---- the end: the value of the body is a bit or a register, whose locations hold the outputs

module _ {B : Type 0} where
  abbrev pub locations_of : Place → Value → State B → Outcome B (List ℕ)
  locations_of at (bit location) s = went (location ∷ []) s
  locations_of at (register locations) s =
      provided (leb (length locations) MOST_OUTPUTS) causes.Outputs at (went locations s)
  locations_of at _ s = stuck causes.NoOutput at

  abbrev pub read_all : Bits B → Place → List ℕ → State B → Outcome B (List (Stamped B))
  read_all bits at [] s = went [] s
  read_all bits at (l ∷ ls) s = after (read bits l at s)
      (λ first s. after (read_all bits at ls s) (λ more s. went (first ∷ more) s))

-- the run of a program on bits of any type, to the bits of its outputs
abbrev pub run_on : {B : Type 0} → Bits B → List Param → Tree → List B
    → Outcome B (List (Stamped B))
run_on bits params body input =
    after (run_of bits MOST_DEPTH (params_in 0 params nothing) body (start input)) (λ value s.
    after (locations_of (place_of body) value s) (read_all bits (place_of body)))

-- ---- the run on real bits

abbrev pub real_bits : Bits Bool
real_bits = record { constant = λ b. b; xor = xor; and = ◌&&◌ }

abbrev pub run_of_program : List Param → Tree → List Bool → Outcome Bool (List (Stamped Bool))
run_of_program params body input = run_on real_bits params body input

-- bits that say nothing: a run on them has the kinds, places, stamps and writes of every run
abbrev pub no_bits : Bits (Unit {0})
no_bits = record { constant = λ b. tt; xor = λ a b. tt; and = λ a b. tt }

abbrev pub nothings : ℕ → List (Unit {0})
nothings zero = []
nothings (suc n) = tt ∷ nothings n

-- the run of a program without bits
abbrev pub run_without_bits : List Param → Tree → Outcome (Unit {0}) (List (Stamped (Unit {0})))
run_without_bits params body = run_on no_bits params body (nothings (sum (widths_of params)))

-- an input has a bit for each place of each parameter
abbrev pub IsInput : List Param → List Bool → Type 0
IsInput params input = length input ≡ sum (widths_of params)

-- The run on an input ends, with these outputs and this state.
abbrev pub Ends : List Param → Tree → List Bool → List (Stamped Bool) → State Bool → Type 0
Ends params body input outputs s = run_of_program params body input ≡ went outputs s

-- The run on an input is stuck at a place.
abbrev pub IsStuck : List Param → Tree → List Bool → Cause → Place → Type 0
IsStuck params body input why at = run_of_program params body input ≡ stuck why at

-- The output of a program on an input: the bits of the locations of its value.
pub record HasOutput (params : List Param) (body : Tree) (input output : List Bool) : Type 0 where
  pub outputs : List (Stamped Bool)
  pub state : State Bool
  pub ends : Ends params body input outputs state
  pub bits : output ≡ map (λ o. o.bit) outputs

-- The run of a program ends on every input.
pub record EndsOnAll (params : List Param) (body : Tree) : Type 0 where
  pub ends : (input : List Bool) → IsInput params input
      → (output : List Bool) × HasOutput params body input output

-- ---- the tape of a program

-- The run on an input leaves this tape, whose references have the bits that the run met.
pub record LeavesOn (params : List Param) (body : Tree) (t : TapeView)
    (input : List Bool) : Type 0 where
  pub outputs : List (Stamped Bool)
  pub state : State Bool
  pub ends : Ends params body input outputs state
  pub entries : state.log ≡ t.entries
  pub claims : map (λ m. m.claim) state.claims ≡ t.claims
  pub stamps : map (λ o. o.stamp) outputs ≡ t.outputs
  pub claim_bits : map (λ m. m.bit) state.claims ≡ map (λ c. bit_on t input c.of) t.claims
  pub output_bits : map (λ o. o.bit) outputs ≡ map (bit_on t input) t.outputs

-- The tape of a program: its runs leave this tape on every input.
pub record IsTapeOf (params : List Param) (body : Tree) (t : TapeView) : Type 0 where
  pub widths : t.params ≡ widths_of params
  pub left : (input : List Bool) → IsInput params input → LeavesOn params body t input

-- The tape that a run without bits leaves.
abbrev pub tape_of : List Param → List (Stamped (Unit {0})) → State (Unit {0}) → TapeView
tape_of params outputs s =
    record {
      params = widths_of params;
      entries = s.log;
      claims = map
          (λ m. m.claim) s.claims;
      outputs = map (λ o. o.stamp) outputs;
    }

-- The run of a program is the same for all inputs but for its bits: it is stuck for all at the same
-- place and for the same reason, or leaves the same tape for all.
abbrev pub SameForAll : Type 0
SameForAll =
    (params : List Param) (body : Tree)
    → ((why : Cause) (at : Place) → run_without_bits params body ≡ stuck why at
    → (input : List Bool) → IsInput params input → IsStuck params body input why at)
    × ((outputs : List (Stamped (Unit {0}))) (s : State (Unit {0}))
    → run_without_bits params body ≡ went outputs s
    → IsTapeOf params body (tape_of params outputs s))

-- What a run without bits leaves is a tape: its references are earlier, and the limits hold.
abbrev pub RunsLeaveTapes : Type 0
RunsLeaveTapes =
    (params : List Param) (body : Tree) (outputs : List (Stamped (Unit {0}))) (s : State (Unit {0}))
    → AreParams params → run_without_bits params body ≡ went outputs s
    → IsTape (tape_of params outputs s)

-- What a run without bits writes is within the limit of a run.
abbrev pub RunsWriteFew : Type 0
RunsWriteFew =
    (params : List Param) (body : Tree) (outputs : List (Stamped (Unit {0}))) (s : State (Unit {0}))
    → run_without_bits params body ≡ went outputs s → length s.log ≤ MOST_RUN_WRITES

-- A program whose run ends has an output: no register is empty.
abbrev pub HasOutputs : Type 0
HasOutputs =
    (params : List Param) (body : Tree) (outputs : List (Stamped (Unit {0}))) (s : State (Unit {0}))
    → AreParams params → IsTrue (is_formed body) → run_without_bits params body ≡ went outputs s
    → 1 ≤ length outputs

-- A program whose run ends on every input has one tape.
abbrev pub OneTape : Type 0
OneTape =
    (params : List Param) (body : Tree) → EndsOnAll params body
    → (t : TapeView) × IsTapeOf params body t ×
    ((other : TapeView) → IsTapeOf params body other → other ≡ t)

-- The run of a program with a tape ends on every input, and its output is that of the tape.
abbrev pub TapeGivesOutput : Type 0
TapeGivesOutput =
    (params : List Param) (body : Tree) (t : TapeView) → IsTapeOf params body t
    → (input : List Bool) → IsInput params input → HasOutput params body input (outputs_on t input)

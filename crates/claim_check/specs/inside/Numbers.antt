-- The numbers of inputs and writes in a diagram, in a table with a slot for each.
use Rattle.std.specs.Prelude.{◌≡◌, ℕ, ◌+◌, ◌<◌, ◌≤◌, ◌⊎◌, List, length, slice_index, map}
use Rattle.std.specs.Prelude.{not, Bool}
use Rattle.revs_tape.specs.declared.tape.Ref.{Ref}
use Rattle.revs_tape.specs.ClaimFunctions.{HasAtMost, HasMore}
use Rattle.revs_tape.specs.Measures.{inputs_of}
use Rattle.revs_tape.specs.Tapes.{TapeView}
use Rattle.revs_tape.specs.VariableOrders.{variable_order}
use Rattle.decision_diagram.specs.declared.node.DdFault.{DdFault}
use Rattle.decision_diagram.specs.declared.node.DdFault.TheVariants as faults
use Rattle.decision_diagram.specs.Diagrams.{DiagramView, Triple}
use Rattle.decision_diagram.specs.Functions.{Assignment, Function, IsLeast}
use Rattle.decision_diagram.specs.Growth.{StandsFor}
use Rattle.claim_check.specs.Claims.{HoldBefore}
use Rattle.claim_check.specs.declared.fault.ClaimFault.{ClaimFault}
use Rattle.claim_check.specs.declared.fault.ClaimFault.TheVariants as claim_faults
use Rattle.claim_check.specs.declared.schedule.Schedule.{Schedule}
use Rattle.claim_check.specs.inside.Chains.{AreChains}
use Rattle.claim_check.specs.inside.Labels.{AreLabels, claims_of, label_of}
use Rattle.claim_check.specs.inside.Slots.{IsRefOf, slot_of, slots_of}
use Rattle.claim_check.specs.inside.Tables.{HoldsOnlyMembers, function_at}
use Rattle.claim_check.specs.Variables.{AreVariables}

-- ---- the order of the work

-- the order in which the inputs and writes of a tape get their numbers
pub record IsScheduleOf (t : TapeView) (s : Schedule) : Type 0 where
  pub labels : AreLabels t s.labels.items
  pub chains : AreChains s.labels.items (claims_of t + 1) 0 s.chains.first.items
      s.chains.next.items
  pub variables : AreVariables (inputs_of t) (variable_order t.params) s.variables.items

-- Under the claim with this number a reference comes before a slot: an earlier claim rests on it,
-- or this claim is the first that does, and its own slot is before.
abbrev pub ComesBefore : TapeView → List ℕ → ℕ → ℕ → Ref → Type 0
ComesBefore t labels number slot ref =
    (label_of t labels ref < number)
    ⊎ ((label_of t labels ref ≡ number) × (slot_of (inputs_of t) ref < slot))

-- ---- numbers

-- an input or write, and the number in its slot stands for its function
pub record HasNumber (t : TapeView) (nodes : List Triple) (numbers : List ℕ) (ref : Ref)
    : Type 0 where
  pub known : IsRefOf t ref
  pub stands : StandsFor nodes (slice_index numbers (slot_of (inputs_of t) ref))
      (function_at t ref)

-- What comes before a slot under a claim has its number.
pub record AreMade (t : TapeView) (labels : List ℕ) (number slot : ℕ) (nodes : List Triple)
    (numbers : List ℕ) : Type 0 where
  pub size : length numbers ≡ slots_of t
  pub made : (ref : Ref) → IsRefOf t ref → ComesBefore t labels number slot ref
      → HasNumber t nodes numbers ref

-- the slot has the label, or is the end
pub record HasLabel (labels : List ℕ) (label slot : ℕ) : Type 0 where
  pub high : slot ≤ length labels
  pub here : slot < length labels → slice_index labels slot ≡ label

-- the claims through one pass the limit of a diagram; memory is wanted only where there is room for
-- a node more
abbrev pub PassLimit : TapeView → ℕ → DiagramView → DdFault → Type 0
PassLimit t claims d (faults.Full nodes) = HasMore t claims d.limit × (nodes ≡ d.limit)
PassLimit t claims d (faults.Memory _) = length d.nodes < d.limit

-- ---- claims

-- the fault of a claim whose diagrams are refused
abbrev pub claim_fault : ℕ → DdFault → ClaimFault
claim_fault number (faults.Full nodes) = claim_faults.Diagram number nodes
claim_fault number (faults.Memory _) = claim_faults.Memory _

-- the least assignment that does not give the bit, as an input
pub record IsLeastOther (f : Function) (bit : Bool) (variables : List ℕ) (input : List Bool)
    : Type 0 where
  pub assignment : Assignment
  pub least : IsLeast f (not bit) assignment
  pub bits : input ≡ map assignment variables

-- The first claims hold on all inputs and are within the limit, and what they rest on has numbers.
pub record AreSettled (t : TapeView) (labels : List ℕ) (limit number : ℕ) (d : DiagramView)
    (numbers : List ℕ) : Type 0 where
  pub hold : HoldBefore t number
  pub few : HasAtMost t number limit
  pub members : HoldsOnlyMembers t number d
  pub same_limit : d.limit ≡ limit
  pub made : AreMade t labels number 0 d.nodes numbers

-- What the diagram of a claim says of it, and what the claims so far say of all.
use Rattle.std.proofs.Common.{◌≡◌, ℕ, ◌+◌, ◌<◌, ◌≤◌, Bool, true, false, not, IsTrue, IsFalse, List, [], ◌++◌, length, take, get_or, Option, Some, None, IfSome}
use Rattle.std.proofs.Common.{IfNone}
use Rattle.std.proofs.Common.{refl, sym, ap, ◌∙◌, subst, arith, inl, slice_get}
use Rattle.std.specs.Bool.{beq}
use Rattle.std.specs.Option.{option_eq}
use Rattle.std.proofs.lemmas.Bool.{true≢false}
use Rattle.std.proofs.lemmas.List.{get_or-map, length-map, take-append-le, take_all}
use Rattle.list_facts.specs.Bits.{bit_of}
use Rattle.revs_tape.specs.declared.tape.Claim.{Claim}
use Rattle.revs_tape.specs.ClaimFunctions.{HasAtMost, HasMore}
use Rattle.revs_tape.specs.Claims.{HoldsEverywhere, IsLeastBreaking}
use Rattle.revs_tape.specs.Measures.{inputs_of}
use Rattle.revs_tape.specs.Tapes.{IsTape, TapeView, claimed}
use Rattle.revs_tape.specs.VariableOrders.{variable_order}
use Rattle.decision_diagram.specs.declared.node.DdFault.{DdFault}
use Rattle.decision_diagram.specs.declared.node.DdFault.TheVariants as faults
use Rattle.decision_diagram.specs.Diagrams.{DiagramView, IsCanonical, Triple, function_of}
use Rattle.decision_diagram.specs.Functions.{AreSame, Assignment, Function, GivesOnly, IsLeast, Varies}
use Rattle.claim_check.specs.Claims.{BreaksOn, HoldBefore, HoldWithin, IsClaimFault}
use Rattle.claim_check.specs.declared.fault.ClaimFault.TheVariants as claim_faults
use Rattle.claim_check.specs.inside.Labels.{AreLabels, claims_of}
use Rattle.claim_check.specs.inside.Numbers.{AreMade, AreSettled, HasNumber, IsLeastOther, PassLimit, claim_fault}
use Rattle.claim_check.specs.inside.Slots.{slot_of, slots_of}
use Rattle.claim_check.specs.inside.Tables.{HoldsOnlyMembers, function_at, input_at}
use Rattle.claim_check.specs.Variables.{AreVariables}
use Rattle.claim_check.proofs.MemberLemmas.{at_most, begun, no_bases}
use Rattle.claim_check.proofs.NumberLemmas.{all_bases, claim_known, made_none}
use Rattle.claim_check.proofs.VariableLemmas.{ordered, placed_bits}
use Rattle.claim_check.proofs.VerdictLemmas.{all_hold, hold_more, holds_everywhere, least_breaking}

-- ---- constant, or not

same_bit : (a b : Bool) → beq a b ≡ true → a ≡ b
same_bit true true e = refl
same_bit true false e = absurd (true≢false (sym e))
same_bit false true e = absurd (true≢false (sym e))
same_bit false false e = refl

other_bit : (a b : Bool) → beq a b ≡ false → a ≡ b → ⊥
other_bit true true e same = true≢false e
other_bit true false e same = true≢false same
other_bit false true e same = true≢false (sym same)
other_bit false false e same = true≢false e

pub constant_gives : (f : Function) (r : Option Bool) (bit : Bool) → option_eq beq r (Some bit) ≡ true → IfSome r (GivesOnly f) → GivesOnly f bit
constant_gives f None bit e some = absurd (true≢false (sym e))
constant_gives f (Some b) bit e some = subst (GivesOnly f) (same_bit b bit e) some

both_bits : (f : Function) (bit : Bool) → Varies f → GivesOnly f bit → ⊥
both_bits f true varies gives = true≢false (sym (gives varies.0.0) ∙ varies.0.1)
both_bits f false varies gives = true≢false (sym varies.1.1 ∙ gives varies.1.0)

pub constant_other : (f : Function) (r : Option Bool) (bit : Bool) → option_eq beq r (Some bit) ≡ false → IfSome r (GivesOnly f) → IfNone r (Varies f)
    → GivesOnly f bit → ⊥
constant_other f None bit e some none gives = both_bits f bit none gives
constant_other f (Some b) bit e some none gives = other_bit b bit e (sym (some (λ _. false)) ∙ gives (λ _. false))

twice : (bit : Bool) → not (not bit) ≡ bit
twice true = refl
twice false = refl

-- an assignment with the other bit is found
pub least_found : (f : Function) (bit found : Bool) (a : Assignment) → (IsTrue found → IsLeast f (not bit) a)
    → (IsFalse found → GivesOnly f (not (not bit))) → (GivesOnly f bit → ⊥) → IsLeast f (not bit) a
least_found f bit true a least never other = least refl
least_found f bit false a least never other = absurd (other (subst (GivesOnly f) (twice bit) (never refl)))

-- a list that was lent as a whole
pub whole_list : (n : ℕ) (now xs ys : List Bool) → now ≡ take n (xs ++ ys) → n ≡ length xs → now ≡ xs
whole_list n now xs ys is size = is ∙ take-append-le n xs ys (omega (arith, size)) ∙ take_all n xs (omega (arith, size))

-- ---- one claim

pub claim_holds : (t : TapeView) (claim : Claim) (nodes : List Triple) (numbers : List ℕ) (f : ℕ) → HasNumber t nodes numbers claim.of
    → f ≡ get_or numbers (slot_of (inputs_of t) claim.of) 0 → GivesOnly (function_of nodes f) (claimed claim.kind) → HoldsEverywhere t claim
claim_holds t claim nodes numbers f has is gives =
    let same : AreSame (function_of nodes f) (function_at t claim.of) =
    subst (λ (n : ℕ). AreSame (function_of nodes n) (function_at t claim.of)) (sym is) has.stands.same in
    holds_everywhere t claim (function_of nodes f) same gives

pub claim_breaks : (t : TapeView) (claim : Claim) (nodes : List Triple) (numbers variables : List ℕ) (f : ℕ) (bit : Bool) (input : List Bool)
    → HasNumber t nodes numbers claim.of → f ≡ get_or numbers (slot_of (inputs_of t) claim.of) 0 → bit ≡ claimed claim.kind
    → AreVariables (inputs_of t) (variable_order t.params) variables → IsLeastOther (function_of nodes f) bit variables input
    → IsLeastBreaking t claim input
claim_breaks t claim nodes numbers variables f bit input has is claims are other =
    let a : Assignment = other.assignment in
    let same : AreSame (function_of nodes f) (function_at t claim.of) =
    subst (λ (n : ℕ). AreSame (function_of nodes n) (function_at t claim.of)) (sym is) has.stands.same in
    let least : IsLeast (function_of nodes f) (not (claimed claim.kind)) a =
    subst (λ (b : Bool). IsLeast (function_of nodes f) (not b) a) claims other.least in
    let size : length input ≡ inputs_of t = ap length other.bits ∙ length-map variables a ∙ are.size in
    let there : input ≡ input_at t a = placed_bits (ordered t) a (λ i. get_or variables i 0) input size are.at
    (λ i low. ap (λ (z : List Bool). bit_of z i) other.bits ∙ get_or-map a variables i 0 false (omega (arith, low, are.size))) in
    subst (IsLeastBreaking t claim) (sym there) (least_breaking t claim (function_of nodes f) a same least)

-- ---- the claims so far

-- what a claim is on has its number once its diagrams are made
pub claim_numbered : (t : TapeView) → IsTape t → (labels : List ℕ) → AreLabels t labels → (number : ℕ) (claim : Claim)
    → slice_get t.claims number ≡ Some claim → number < claims_of t → (nodes : List Triple) (numbers : List ℕ)
    → AreMade t labels (number + 1) 0 nodes numbers → HasNumber t nodes numbers claim.of
claim_numbered t is labels are number claim at inside nodes numbers made =
    made.made claim.of (claim_known t is number claim at) (inl (omega (arith, are.claims.low number claim at inside)))

pub few_through : (t : TapeView) → IsTape t → (labels : List ℕ) → AreLabels t labels → (claims limit : ℕ) → claims ≤ claims_of t → (d : DiagramView)
    (numbers : List ℕ) → HoldsOnlyMembers t claims d → d.limit ≡ limit → AreMade t labels claims 0 d.nodes numbers → HasAtMost t claims limit
few_through t is labels are claims limit inside d numbers members same made =
    at_most t claims limit d members (all_bases t is labels are claims inside d.nodes numbers made) same

pub settled_more : (t : TapeView) → IsTape t → (labels : List ℕ) → AreLabels t labels → (limit number : ℕ) (claim : Claim)
    → slice_get t.claims number ≡ Some claim → number < claims_of t → HoldBefore t number → HoldsEverywhere t claim → (d : DiagramView)
    (numbers : List ℕ) → HoldsOnlyMembers t (number + 1) d → d.limit ≡ limit → AreMade t labels (number + 1) 0 d.nodes numbers
    → AreSettled t labels limit (number + 1) d numbers
settled_more t is labels are limit number claim at inside hold holds d numbers members same made = record {
  hold = hold_more t number claim hold at holds;
  few = few_through t is labels are (number + 1) limit (omega (arith, inside)) d numbers members same made;
  members = members;
  same_limit = same;
  made = made;
}

pub broken : (t : TapeView) → IsTape t → (labels : List ℕ) → AreLabels t labels → (limit number : ℕ) (claim : Claim)
    → slice_get t.claims number ≡ Some claim → number < claims_of t → HoldBefore t number → (input : List Bool) → IsLeastBreaking t claim input
    → (d : DiagramView) (numbers : List ℕ) → HoldsOnlyMembers t (number + 1) d → d.limit ≡ limit → AreMade t labels (number + 1) 0 d.nodes numbers
    → BreaksOn t limit number input
broken t is labels are limit number claim at inside hold input least d numbers members same made = record {
  claim = claim;
  is_claim = at;
  before = hold;
  least = least;
  few = few_through t is labels are (number + 1) limit (omega (arith, inside)) d numbers members same made;
}

pub passed : (t : TapeView) (limit number : ℕ) (claim : Claim) (d : DiagramView) → slice_get t.claims number ≡ Some claim → HoldBefore t number
    → HasAtMost t number limit → d.limit ≡ limit → (fault : DdFault) → PassLimit t (number + 1) d fault
    → IsClaimFault t limit (claim_fault number fault)
passed t limit number claim d at hold few same (faults.Full nodes) pass =
    (record { claim = claim; is_claim = at; before = hold; few = few; more = subst (HasMore t (number + 1)) same pass.0 }, pass.1 ∙ same)
passed t limit number claim d at hold few same (faults.Memory _) pass = tt

-- memory that was wanted for numbers was wanted where there is room
pub wanted_room : (t : TapeView) (number claims : ℕ) (d : DiagramView) (fault : DdFault) → claim_fault number fault ≡ claim_faults.Memory _
    → PassLimit t claims d fault → length d.nodes < d.limit
wanted_room t number claims d (faults.Full nodes) is pass = absurd (cc)
wanted_room t number claims d (faults.Memory _) is pass = pass

-- before the first claim nothing is asked
pub none_settled : (t : TapeView) (labels : List ℕ) (limit n : ℕ) (d : DiagramView) (numbers : List ℕ) → n ≡ inputs_of t → IsCanonical d
    → d ≡ record { vars = n; limit = limit; nodes = [] } → length numbers ≡ slots_of t → AreSettled t labels limit 0 d numbers
none_settled t labels limit n d numbers inputs canonical empty size =
    let vars : d.vars ≡ inputs_of t = ap (λ (e : DiagramView). e.vars) empty ∙ inputs in
    let members : HoldsOnlyMembers t 0 d = begun t 0 d canonical vars (ap (λ (e : DiagramView). e.nodes) empty) in
    let same : d.limit ≡ limit = ap (λ (e : DiagramView). e.limit) empty in
    record {
      hold = tt;
      few = at_most t 0 limit d members (no_bases t d.nodes) same;
      members = members;
      same_limit = same;
      made = made_none t labels d.nodes numbers size;
    }

pub all_settled : (t : TapeView) (labels : List ℕ) (limit number : ℕ) (d : DiagramView) (numbers : List ℕ) → claims_of t ≡ number
    → AreSettled t labels limit number d numbers → HoldWithin t limit
all_settled t labels limit number d numbers whole settled = record {
  all = all_hold t number settled.hold whole;
  few = subst (λ (n : ℕ). HasAtMost t n limit) (sym whole) settled.few;
}

-- Labels: the first claim that rests on each input and write of a tape, or the number of claims
-- where none does.
use Rattle.std.specs.Prelude.{◌≡◌, ℕ, ◌+◌, ◌<◌, ◌≤◌, ◌⊎◌, List, length, slice_get, slice_index}
use Rattle.std.specs.Prelude.{Some}
use Rattle.std.specs.List.{AllByRecursion}
use Rattle.list_facts.specs.Lists.{IsAmong, AnyByRecursion}
use Rattle.revs_tape.specs.declared.tape.Claim.{Claim}
use Rattle.revs_tape.specs.declared.tape.Ref.{Ref}
use Rattle.revs_tape.specs.declared.tape.Ref.TheVariants as refs
use Rattle.revs_tape.specs.ClaimFunctions.{IsBase, operands_of}
use Rattle.revs_tape.specs.Measures.{inputs_of}
use Rattle.revs_tape.specs.Tapes.{TapeView}
use Rattle.claim_check.specs.inside.Slots.{slot_of, slots_of, IsRefOf}

abbrev pub claims_of : TapeView → ℕ
claims_of t = length t.claims

abbrev pub label_of : TapeView → List ℕ → Ref → ℕ
label_of t labels ref = slice_index labels (slot_of (inputs_of t) ref)

-- Where a label is the number of a claim, the claims through that one rest on the input or write.
pub record AreSound (t : TapeView) (labels : List ℕ) : Type 0 where
  pub size : length labels ≡ slots_of t
  pub most : (slot : ℕ) → slice_index labels slot ≤ claims_of t
  pub bases : (ref : Ref) → IsRefOf t ref → label_of t labels ref < claims_of t
      → IsBase t (label_of t labels ref + 1) ref

-- the labels of what the first claims are on are no greater than these claims' numbers
pub record HaveClaims (t : TapeView) (count : ℕ) (labels : List ℕ) : Type 0 where
  pub low : (number : ℕ) (claim : Claim) → slice_get t.claims number ≡ Some claim
      → number < count → label_of t labels claim.of ≤ number

-- the operands of the writes from the j-th on have labels that are no greater than the writes'
pub record ArePassedOn (t : TapeView) (j : ℕ) (labels : List ℕ) : Type 0 where
  pub low : (k : ℕ) (operand : Ref) → j ≤ k → IsAmong operand (operands_of t (refs.Write k))
      → label_of t labels operand ≤ label_of t labels (refs.Write k)

-- the labels of a tape
pub record AreLabels (t : TapeView) (labels : List ℕ) : Type 0 where
  pub sound : AreSound t labels
  pub claims : HaveClaims t (claims_of t) labels
  pub passed : ArePassedOn t 0 labels

-- what becomes of the label of a slot, where these references get one: it stays, or becomes that
-- one
abbrev pub StaysOrBecomes : ℕ → List Ref → ℕ → List ℕ → List ℕ → ℕ → Type 0
StaysOrBecomes inputs made label old new slot =
    (slice_index new slot ≡ slice_index old slot)
    ⊎ ((slice_index new slot ≡ label) × AnyByRecursion (λ ref. slot ≡ slot_of inputs ref) made)

-- The labels of these references become a label where it is less, and no other label changes.
pub record AreLowered (inputs : ℕ) (made : List Ref) (label : ℕ) (old new : List ℕ)
    : Type 0 where
  pub size : length new ≡ length old
  pub below : (slot : ℕ) → slice_index new slot ≤ slice_index old slot
  pub here : AllByRecursion (λ ref. slice_index new (slot_of inputs ref) ≤ label) made
  pub each : (slot : ℕ) → StaysOrBecomes inputs made label old new slot

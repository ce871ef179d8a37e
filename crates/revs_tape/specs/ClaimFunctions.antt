-- The functions on which claims rest, and how many there are.
use Rattle.std.specs.Prelude.{◌≡◌, ℕ, ◌+◌, ◌≤◌, ◌⊎◌, Bool, List, [], ◌∷◌, length, take, sum, slice_get, slice_set, Option, Some, None}
use Rattle.std.specs.List.{AllByRecursion}
use Rattle.revs_tape.specs.declared.tape.Ref.{Ref}
use Rattle.revs_tape.specs.declared.tape.Ref.TheVariants as refs
use Rattle.revs_tape.specs.declared.tape.Entry.{Entry}
use Rattle.list_facts.specs.Lists.{IsAmong, AnyByRecursion, AreApart}
use Rattle.revs_tape.specs.Tapes.{TapeView, IsTape, bit_on, operands}
use Rattle.revs_tape.specs.Claims.{IsInputOf}
use Rattle.revs_tape.specs.VariableOrders.{variable_order}

-- ---- what a claim rests on

-- the operands of a write where there is one
abbrev pub operands_at : Option Entry → List Ref
operands_at None = []
operands_at (Some entry) = operands entry

-- the operands of what made a bit; an input has none
abbrev pub operands_of : TapeView → Ref → List Ref
operands_of t (refs.Input i) = []
operands_of t (refs.Write j) = operands_at (slice_get t.entries j)

-- A reference rests on itself, and on what its operands rest on.
pub data RestsOn (t : TapeView) : Ref → Ref → Type 0 where
  itself : (ref : Ref) → RestsOn t ref ref
  through : (ref operand base : Ref) → IsAmong operand (operands_of t ref)
      → RestsOn t operand base → RestsOn t ref base

-- One of the first claims rests on this input or write.
abbrev pub IsBase : TapeView → ℕ → Ref → Type 0
IsBase t claims base = AnyByRecursion (λ claim. RestsOn t claim.of base) (take claims t.claims)

-- ---- functions of the inputs

-- a function that comes from that of an input or a write by fixing the first variables of the order
-- to these bits
pub record Restriction : Type 0 where
  pub of : Ref
  pub fixed : List Bool

-- the input with the first variables of an order set to these bits
abbrev pub with_fixed : List ℕ → List Bool → List Bool → List Bool
with_fixed [] bits input = input
with_fixed (i ∷ order) [] input = input
with_fixed (i ∷ order) (bit ∷ bits) input = with_fixed order bits (slice_set input i bit)

abbrev pub value_on : TapeView → Restriction → List Bool → Bool
value_on t r input = bit_on t (with_fixed (variable_order t.params) r.fixed input) r.of

-- Two of them are one function of the inputs.
abbrev pub IsSameFunction : TapeView → Restriction → Restriction → Type 0
IsSameFunction t r s = (input : List Bool) → IsInputOf t input
    → value_on t r input ≡ value_on t s input

abbrev pub IsConstant : TapeView → Restriction → Type 0
IsConstant t r = (one other : List Bool) → IsInputOf t one → IsInputOf t other
    → value_on t r one ≡ value_on t r other

-- A member of the set of functions on which the first claims rest: a restriction that is not
-- constant.
pub record IsMember (t : TapeView) (claims : ℕ) (r : Restriction) : Type 0 where
  pub base : IsBase t claims r.of
  pub few : length r.fixed ≤ sum t.params
  pub varies : ¬ IsConstant t r

-- ---- how many

-- The set has more members than the limit.
pub record HasMore (t : TapeView) (claims limit : ℕ) : Type 0 where
  pub members : List Restriction
  pub are : AllByRecursion (IsMember t claims) members
  pub apart : AreApart (IsSameFunction t) members
  pub many : length members ≡ limit + 1

-- The set has no more members than the limit: each is one of at most that many functions.
pub record HasAtMost (t : TapeView) (claims limit : ℕ) : Type 0 where
  pub listed : List Restriction
  pub few : length listed ≤ limit
  pub all : (r : Restriction) → IsMember t claims r → AnyByRecursion (IsSameFunction t r) listed

-- The law: of every tape, exactly one of the two holds.
abbrev pub MembersAreCounted : Type 0
MembersAreCounted = (t : TapeView) → IsTape t → (claims limit : ℕ)
    → (HasMore t claims limit ⊎ HasAtMost t claims limit)
    × (HasMore t claims limit → ¬ HasAtMost t claims limit)

-- The inputs and writes on which the first claims rest.
use Rattle.std.proofs.Common.{◌≡◌, ℕ, zero, suc, ◌<◌, ◌≤◌, inl, inr, List, [], ◌∷◌, take, slice_get, Some, refl, sym, subst, arith}
use Rattle.std.proofs.lemmas.Option.{same_Some}
use Rattle.list_facts.specs.Lists.{IsAmong, AnyByRecursion}
use Rattle.revs_tape.specs.declared.tape.Claim.{Claim}
use Rattle.revs_tape.specs.declared.tape.Ref.{Ref}
use Rattle.revs_tape.specs.ClaimFunctions as sets
use Rattle.revs_tape.specs.ClaimFunctions.{RestsOn, IsBase, operands_of}
use Rattle.revs_tape.specs.Tapes.{TapeView}

-- ---- some of the first

any_take : {A : Type 0} (P : A → Type 0) (xs : List A) (c d : ℕ) → c ≤ d → AnyByRecursion P (take c xs) → AnyByRecursion P (take d xs)
any_take P xs zero d le k = absurd k
any_take P [] (suc c) d le k = absurd k
any_take P (x ∷ xs) (suc c) zero le k = absurd (omega (arith, le))
any_take P (x ∷ xs) (suc c) (suc d) le k = elim k as (λ _. AnyByRecursion P (take (suc d) (x ∷ xs))) [
  | inl is ↦ inl is
  | inr later ↦ inr (any_take P xs c d (omega (arith, le)) later)
]

any_weaker : {A : Type 0} (P Q : A → Type 0) → ((x : A) → P x → Q x) → (xs : List A) → AnyByRecursion P xs → AnyByRecursion Q xs
any_weaker P Q each [] k = absurd k
any_weaker P Q each (x ∷ xs) k = elim k as (λ _. AnyByRecursion Q (x ∷ xs)) [
  | inl is ↦ inl (each x is)
  | inr later ↦ inr (any_weaker P Q each xs later)
]

any_at : {A : Type 0} (P : A → Type 0) (xs : List A) (c k : ℕ) (x : A) → k < c → slice_get xs k ≡ Some x → P x → AnyByRecursion P (take c xs)
any_at P xs zero k x low is one = absurd (omega (arith, low))
any_at P [] (suc c) k x low is one = cc
any_at P (y ∷ ys) (suc c) zero x low is one = inl (subst P (sym (same_Some y x is)) one)
any_at P (y ∷ ys) (suc c) (suc k) x low is one = inr (any_at P ys c k x (omega (arith, low)) is one)

-- the element of a list at this place, one of the first, of which a fact holds
record IsSome {A : Type 0} (P : A → Type 0) (xs : List A) (c : ℕ) : Type 0 where
  place : ℕ
  element : A
  early : place < c
  is : slice_get xs place ≡ Some element
  holds : P element

some_at : {A : Type 0} (P : A → Type 0) (xs : List A) (c : ℕ) → AnyByRecursion P (take c xs) → IsSome P xs c
some_at P xs zero k = absurd k
some_at P [] (suc c) k = absurd k
some_at P (y ∷ ys) (suc c) k = elim k as (λ _. IsSome P (y ∷ ys) (suc c)) [
  | inl one ↦ record { place = 0; element = y; early = omega arith; is = refl; holds = one }
  | inr later ↦
      let found = some_at P ys c later in
      record { place = suc found.place; element = found.element; early = omega (arith, found.early); is = found.is; holds = found.holds }
]

-- ---- what a reference rests on

rests_further : (t : TapeView) (operand : Ref) (ref base : Ref) → RestsOn t ref base → IsAmong operand (operands_of t base) → RestsOn t ref operand
rests_further t operand _ _ (sets.itself ref) among = sets.through ref operand operand among (sets.itself operand)
rests_further t operand _ _ (sets.through ref through base near below) among =
    sets.through ref through operand near (rests_further t operand through base below among)

-- what holds of a reference and passes to operands holds of all on which it rests
rests_within : (t : TapeView) (P : Ref → Type 0) → ((ref operand : Ref) → P ref → IsAmong operand (operands_of t ref) → P operand)
    → (ref base : Ref) → RestsOn t ref base → P ref → P base
rests_within t P closed _ _ (sets.itself ref) one = one
rests_within t P closed _ _ (sets.through ref operand base among below) one =
    rests_within t P closed operand base below (closed ref operand one among)

-- ---- what the first claims rest on

pub base_more : (t : TapeView) (c d : ℕ) (ref : Ref) → c ≤ d → IsBase t c ref → IsBase t d ref
base_more t c d ref le base = any_take (λ (claim : Claim). RestsOn t claim.of ref) t.claims c d le base

-- the bit of a claim
pub base_of_claim : (t : TapeView) (c k : ℕ) (claim : Claim) → k < c → slice_get t.claims k ≡ Some claim → IsBase t c claim.of
base_of_claim t c k claim low is = any_at (λ (z : Claim). RestsOn t z.of claim.of) t.claims c k claim low is (sets.itself claim.of)

-- the operands of one of them
pub base_of_operand : (t : TapeView) (c : ℕ) (ref operand : Ref) → IsBase t c ref → IsAmong operand (operands_of t ref) → IsBase t c operand
base_of_operand t c ref operand base among =
    any_weaker (λ (claim : Claim). RestsOn t claim.of ref) (λ (claim : Claim). RestsOn t claim.of operand)
    (λ claim rests. rests_further t operand claim.of ref rests among) (take c t.claims) base

-- what holds of the bits of the claims and passes to operands holds of all of them
pub bases_within : (t : TapeView) (c : ℕ) (P : Ref → Type 0) → ((k : ℕ) (claim : Claim) → k < c → slice_get t.claims k ≡ Some claim → P claim.of)
    → ((ref operand : Ref) → P ref → IsAmong operand (operands_of t ref) → P operand) → (ref : Ref) → IsBase t c ref → P ref
bases_within t c P claims closed ref base =
    let found = some_at (λ (claim : Claim). RestsOn t claim.of ref) t.claims c base in
    rests_within t P closed (found.element).of ref found.holds (claims found.place found.element found.early found.is)

-- What the function of a claim says of it: it holds everywhere, or one input is the least that breaks it.
use Rattle.std.proofs.Common.{◌≡◌, ℕ, zero, suc, ◌+◌, ◌<◌, ◌⊎◌, inl, inr, Bool, true, false, not, List, [], ◌∷◌, ◌++◌, length, take, get_or, slice_get}
use Rattle.std.proofs.Common.{Some, refl, sym, ap, ◌∙◌, subst, arith}
use Rattle.std.specs.List.{AllByRecursion}
use Rattle.std.proofs.lemmas.Bool.{true≢false}
use Rattle.std.proofs.lemmas.List.{get_or_at, take_all}
use Rattle.std.proofs.lemmas.Option.{same_Some}
use Rattle.list_facts.specs.Bits.{bit_of}
use Rattle.revs_tape.specs.declared.tape.Claim.{Claim}
use Rattle.revs_tape.specs.Claims.{HoldsEverywhere, IsLeastBreaking}
use Rattle.revs_tape.specs.Tapes.{TapeView, bit_on, claimed, Holds}
use Rattle.revs_tape.specs.VariableOrders.{IsBefore}
use Rattle.decision_diagram.specs.Functions.{Assignment, Function, AreSame, GivesOnly, IsLeast}
use Rattle.claim_check.specs.Claims.{HoldBefore}
use Rattle.claim_check.specs.inside.Tables.{input_at, function_at}
use Rattle.claim_check.specs.Variables.{bits_at}
use Rattle.claim_check.proofs.FunctionLemmas.{function-bits, over_in}
use Rattle.claim_check.proofs.VariableLemmas.{AreBits, Ordered, assignment_at, bit-bits_at, length-bits_at, ordered, variable_of}

-- ---- one claim

pub holds_everywhere : (t : TapeView) (claim : Claim) (f : Function) → AreSame f (function_at t claim.of) → GivesOnly f (claimed claim.kind)
    → HoldsEverywhere t claim
holds_everywhere t claim f same gives = λ input size.
    let a : Assignment = assignment_at (ordered t) input in
    sym (function-bits (ordered t) (λ bits. bit_on t bits claim.of) input size) ∙ sym (same a) ∙ gives a

not_both : (b : Bool) → ¬ (b ≡ not b)
not_both true e = true≢false e
not_both false e = true≢false (sym e)

either_bit : (b c : Bool) → (b ≡ c) ⊎ (b ≡ not c)
either_bit true true = inl refl
either_bit true false = inr refl
either_bit false true = inr refl
either_bit false false = inl refl

all_at_place : (P : ℕ → Type 0) (xs : List ℕ) (at : ℕ) (behind : List ℕ) (k : ℕ) → AllByRecursion P xs → k < length xs
    → P (get_or (xs ++ at ∷ behind) k 0)
all_at_place P [] at behind k all low = absurd (omega (arith, low))
all_at_place P (x ∷ xs) at behind zero all low = all.0
all_at_place P (x ∷ xs) at behind (suc k) all low = all_at_place P xs at behind k all.1 (omega (arith, low))

place_inside : (before : List ℕ) (at : ℕ) (behind : List ℕ) → length before < length (before ++ at ∷ behind)
place_inside [] at behind = omega arith
place_inside (x ∷ before) at behind = omega (arith, place_inside before at behind)

-- bits before those of the least assignment do not have its bit
parts_from : (v : Ordered) (a : Assignment) (other : List Bool) → IsBefore v.order other (bits_at v.count v.order a)
    → ((i : ℕ) → ((k : ℕ) → k < i → a k ≡ assignment_at v other k) → assignment_at v other i ≡ false → a i ≡ false) → ⊥
parts_from v a other b least =
    let bits : List Bool = bits_at v.count v.order a in
    let i : ℕ = length b.before in
    let inside : i < v.count = omega (arith, ap length b.cut, v.is.count, place_inside b.before b.at b.behind) in
    let here : variable_of v i ≡ b.at = ap (λ (z : List ℕ). get_or z i 0) b.cut ∙ get_or_at b.before b.at b.behind 0 i refl in
    let same : (k : ℕ) → k < i → a k ≡ assignment_at v other k = λ k low.
    let there : variable_of v k ≡ get_or (b.before ++ b.at ∷ b.behind) k 0 = ap (λ (z : List ℕ). get_or z k 0) b.cut in
    let shared = all_at_place (λ j. bit_of other j ≡ bit_of bits j) b.before b.at b.behind k b.same low in
    sym (bit-bits_at v a k (omega (arith, low, inside)))
    ∙ ap (bit_of bits) there ∙ sym shared ∙ ap (bit_of other) (sym there) in
    let low : assignment_at v other i ≡ false = ap (bit_of other) here ∙ b.low in
    let high : a i ≡ true = sym (bit-bits_at v a i inside) ∙ ap (bit_of bits) here ∙ b.high in
    true≢false (sym high ∙ least i same low)

-- where a function is that of some bits, it takes the bit on those of the least assignment, and on none before them
pub record IsLeastOn (v : Ordered) (f : List Bool → Bool) (bit : Bool) (bits : List Bool) : Type 0 where
  pub are_bits : AreBits v bits
  pub gives : f bits ≡ bit
  pub least : (other : List Bool) → AreBits v other → IsBefore v.order other bits → ¬ (f other ≡ bit)

pub least_on : (v : Ordered) (f : List Bool → Bool) (g : Function) (bit : Bool) (a : Assignment) → AreSame g (over_in v f) → IsLeast g bit a
    → IsLeastOn v f bit (bits_at v.count v.order a)
least_on v f g bit a same least = record {
  are_bits = length-bits_at v a;
  gives = sym (same a) ∙ least.gives;
  least = λ other size before gives.
      let there : Assignment = assignment_at v other in
      parts_from v a other before (least.least there (same there ∙ function-bits v f other size ∙ gives));
}

pub least_breaking : (t : TapeView) (claim : Claim) (f : Function) (a : Assignment) → AreSame f (function_at t claim.of)
    → IsLeast f (not (claimed claim.kind)) a → IsLeastBreaking t claim (input_at t a)
least_breaking t claim f a same least =
    let on = least_on (ordered t) (λ bits. bit_on t bits claim.of) f (not (claimed claim.kind)) a same least in
    record {
      is_input = on.are_bits;
      fails = λ holds. not_both (claimed claim.kind) (sym holds ∙ on.gives);
      least = λ other size before. elim (either_bit (bit_on t other claim.of) (claimed claim.kind)) as (λ _. Holds t other claim) [
        | inl met ↦ met
        | inr breaks ↦ absurd (on.least other size before breaks)
      ];
    }

-- ---- one claim after another

all_next : {A : Type 0} (P : A → Type 0) (xs : List A) (n : ℕ) (x : A) → AllByRecursion P (take n xs) → slice_get xs n ≡ Some x → P x
    → AllByRecursion P (take (suc n) xs)
all_next P [] n x all is one = cc
all_next P (y ∷ ys) zero x all is one = (subst P (sym (same_Some y x is)) one, tt)
all_next P (y ∷ ys) (suc n) x all is one = (all.0, all_next P ys n x all.1 is one)

pub hold_more : (t : TapeView) (number : ℕ) (claim : Claim) → HoldBefore t number → slice_get t.claims number ≡ Some claim → HoldsEverywhere t claim
    → HoldBefore t (number + 1)
hold_more t number claim before is holds =
    let next : suc number ≡ number + 1 = omega arith in
    subst (HoldBefore t) next (all_next (HoldsEverywhere t) t.claims number claim before is holds)

pub all_hold : (t : TapeView) (number : ℕ) → HoldBefore t number → length t.claims ≡ number → AllByRecursion (HoldsEverywhere t) t.claims
all_hold t number before whole =
    subst (AllByRecursion (HoldsEverywhere t)) (take_all number t.claims (omega (arith, whole))) before

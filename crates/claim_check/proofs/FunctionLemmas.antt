-- Functions of bits as functions over their variables: which come from one, which vary, which are one.
use Rattle.std.proofs.Common.{◌≡◌, ℕ, ◌<◌, ◌≤◌, inl, inr, Bool, true, false, not, List, length, map, min, refl, sym, ap, ◌∙◌, arith}
use Rattle.std.proofs.lemmas.Bool.{cases_lt, false≢true}
use Rattle.std.proofs.lemmas.List.{length-map}
use Rattle.list_facts.specs.Bits.{bit_of}
use Rattle.list_facts.specs.Lists.{below}
use Rattle.list_facts.proofs.OrderLemmas.{length-below}
use Rattle.list_facts.proofs.SearchLemmas.{same_or_differ}
use Rattle.revs_tape.specs.ClaimFunctions.{with_fixed}
use Rattle.decision_diagram.specs.Functions.{Assignment, Function, AreSame, Takes, Varies, fixed, ComesFrom}
use Rattle.decision_diagram.proofs.RestrictionLemmas.{fixed-below, fixed-from}
use Rattle.claim_check.specs.Variables.{bits_at, over}
use Rattle.claim_check.proofs.VariableLemmas.{Ordered, AreBits, assignment_at, length-bits_at, bits_of_assignment, bits_agree, bits_fixed, bit-map}

-- a function of the bits, over the variables
abbrev pub over_in : Ordered → (List Bool → Bool) → Function
over_in v f = over v.count v.order f

-- ---- values

-- it asks the variables alone
pub function-variables : (v : Ordered) (f : List Bool → Bool) (a b : Assignment) → ((k : ℕ) → k < v.count → a k ≡ b k)
    → over_in v f a ≡ over_in v f b
function-variables v f a b same = ap f (bits_agree v a b same)

-- its bit on some bits is that of their assignment
pub function-bits : (v : Ordered) (f : List Bool → Bool) (bits : List Bool) → AreBits v bits → over_in v f (assignment_at v bits) ≡ f bits
function-bits v f bits size = ap f (bits_of_assignment v bits size)

-- ---- what comes from it

-- the function with the first variables fixed to these bits
abbrev pub restricted : Ordered → (List Bool → Bool) → List Bool → List Bool → Bool
restricted v f first bits = f (with_fixed v.order first bits)

restricted_is : (v : Ordered) (f : List Bool → Bool) (first : List Bool) (a : Assignment)
    → over_in v (restricted v f first) a ≡ over_in v f (fixed (length first) (bit_of first) a)
restricted_is v f first a = ap f (bits_fixed v first a)

pub restriction_comes : (v : Ordered) (f : List Bool → Bool) (first : List Bool) → ComesFrom (over_in v f) (over_in v (restricted v f first))
restriction_comes v f first = record { count = length first; bits = bit_of first; same = λ a. restricted_is v f first a }

-- the function is f with the first variables fixed to these bits
pub record IsRestriction (v : Ordered) (f : List Bool → Bool) (g : Function) : Type 0 where
  pub fixed : List Bool
  pub few : length fixed ≤ v.count
  pub same : AreSame g (over_in v (restricted v f fixed))

pub some_restriction : (v : Ordered) (f : List Bool → Bool) (g : Function) → ComesFrom (over_in v f) g → IsRestriction v f g
some_restriction v f g comes =
    let n : ℕ = v.count in
    let count : ℕ = min comes.count n in
    let bits : List Bool = map comes.bits (below count) in
    let size : length bits ≡ count = length-map (below count) comes.bits ∙ length-below count in
    record {
      fixed = bits;
      few = omega (arith, size);
      same = λ a.
          let before : Assignment = fixed comes.count comes.bits a in
          let now : Assignment = fixed (length bits) (bit_of bits) a in
          comes.same a
          ∙ function-variables v f before now (λ k low. elim (cases_lt k comes.count) as (λ _. before k ≡ now k) [
            | inl early ↦
                let inside : k < count = omega (arith, early, low) in
                fixed-below comes.count comes.bits a k early
                ∙ sym (bit-map comes.bits count k inside)
                ∙ sym (fixed-below (length bits) (bit_of bits) a k (omega (arith, inside, size)))
            | inr late ↦ fixed-from comes.count comes.bits a k late ∙ sym (fixed-from (length bits) (bit_of bits) a k (omega (arith, late, size)))
          ])
          ∙ sym (restricted_is v f bits a);
    }

-- ---- constants

-- the function has one bit on all lists of bits
abbrev pub IsSteady : Ordered → (List Bool → Bool) → Type 0
IsSteady v f = (one other : List Bool) → AreBits v one → AreBits v other → f one ≡ f other

pub varies_not_steady : (v : Ordered) (f : List Bool → Bool) (g : Function) → AreSame g (over_in v f) → Varies g → ¬ IsSteady v f
varies_not_steady v f g same varies steady =
    let low : Assignment = varies.0.0 in
    let high : Assignment = varies.1.0 in
    let one : f (bits_at v.count v.order low) ≡ f (bits_at v.count v.order high) =
    steady (bits_at v.count v.order low) (bits_at v.count v.order high) (length-bits_at v low) (length-bits_at v high) in
    false≢true (sym varies.0.1 ∙ same low ∙ one ∙ sym (same high) ∙ varies.1.1)

other_bit : (bit value : Bool) → (value ≡ not bit → ⊥) → value ≡ bit
other_bit true true differs = refl
other_bit true false differs = absurd (differs refl)
other_bit false true differs = absurd (differs refl)
other_bit false false differs = refl

takes_bit : (v : Ordered) (f : List Bool → Bool) → ¬ IsSteady v f → (bit : Bool) → Takes (over_in v f) bit
takes_bit v f varies bit = elim (same_or_differ v.count f (λ _. not bit)) as (λ _. Takes (over_in v f) bit) [
  | inl all ↦ absurd (varies (λ one other size size2. all one size ∙ sym (all other size2)))
  | inr found ↦ (assignment_at v found.0, function-bits v f found.0 found.1 ∙ other_bit bit (f found.0) found.2)
]

pub not_steady_varies : (v : Ordered) (f : List Bool → Bool) → ¬ IsSteady v f → Varies (over_in v f)
not_steady_varies v f varies = (takes_bit v f varies false, takes_bit v f varies true)

-- ---- one function

pub same_on_bits : (v : Ordered) (f g : List Bool → Bool) → AreSame (over_in v f) (over_in v g) → (bits : List Bool) → AreBits v bits → f bits ≡ g bits
same_on_bits v f g same bits size = sym (function-bits v f bits size) ∙ same (assignment_at v bits) ∙ function-bits v g bits size

pub same_over : (v : Ordered) (f g : List Bool → Bool) → ((bits : List Bool) → AreBits v bits → f bits ≡ g bits) → AreSame (over_in v f) (over_in v g)
same_over v f g same = λ a. same (bits_at v.count v.order a) (length-bits_at v a)

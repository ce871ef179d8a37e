-- Gates that add a value to a line, one list behind another.
use Rattle.std.proofs.Common.{◌≡◌, ℕ, ◌<◌, Bool, true, false, not, ◌&&◌, List, [], ◌∷◌, ◌++◌, length, set, refl, sym, ap, ap₂, ◌∙◌, arith}
use Rattle.std.specs.Bool.{xor}
use Rattle.std.specs.List.{AllByRecursion, flat_map}
use Rattle.std.proofs.Math.Bool.{and-true}
use Rattle.std.proofs.lemmas.List.{get_or-set_same, get_or-set_other, set-set, set-get_or, length-set}
use Rattle.list_facts.specs.Bits.{bit_of}
use Rattle.list_facts.proofs.BitLemmas.{xor_one, xor_none, xor_left, xor_swap}
use Rattle.dependency_graph.specs.declared.node.Base.{Base}
use Rattle.bit_sums.specs.Sums.{xor_by}
use Rattle.mct_circuit.specs.Gates.{GateView, after_gate, line_map, flip_of, positive}
use Rattle.mct_circuit.proofs.FlipLemmas.{flip_sets}
use Rattle.mct_circuit.proofs.ReversalLemmas.{line_map-append}
use Rattle.sum_toggles.specs.Toggles.{HaveLines, bit_gates, one_gates}

-- ---- one flip

pub flip_always : (target : ℕ) (bits : List Bool) → after_gate (flip_of [] target) bits ≡ set bits target (not (bit_of bits target))
flip_always target bits = flip_sets [] target bits ∙ ap (set bits target) (xor_one (bit_of bits target))

pub flip_by_one : (line target : ℕ) (bits : List Bool)
    → after_gate (flip_of (line ∷ []) target) bits ≡ set bits target (xor (bit_of bits line) (bit_of bits target))
flip_by_one line target bits =
    flip_sets (positive line ∷ []) target bits
    ∙ ap (λ met. set bits target (xor met (bit_of bits target))) (and-true (bit_of bits line))

pub flip_by_two : (line other target : ℕ) (bits : List Bool) (value second : Bool) → bit_of bits line ≡ value → bit_of bits other ≡ second
    → after_gate (flip_of (line ∷ other ∷ []) target) bits ≡ set bits target (xor (value && second) (bit_of bits target))
flip_by_two line other target bits value second is also =
    flip_sets (positive line ∷ positive other ∷ []) target bits
    ∙ ap (λ met. set bits target (xor (bit_of bits line && met) (bit_of bits target))) (and-true (bit_of bits other) ∙ also)
    ∙ ap (λ met. set bits target (xor (met && second) (bit_of bits target))) is

-- a flip of what was set before
pub set_again : (bits : List Bool) (target : ℕ) (b value : Bool) → target < length bits
    → set (set bits target b) target (xor value (bit_of (set bits target b) target)) ≡ set bits target (xor value b)
set_again bits target b value low =
    ap (λ bit. set (set bits target b) target (xor value bit)) (get_or-set_same bits target b false low)
    ∙ set-set bits target b (xor value b)

pub xor_in_turn : (a b bit : Bool) → xor b (xor a bit) ≡ xor (xor a b) bit
xor_in_turn a b bit = xor_left b a bit ∙ ap (λ both. xor both bit) (xor_swap b a)

-- ---- gates that add a value

-- the bits of the bases, where each stands on its line
abbrev pub on_lines : (Base → ℕ) → List Bool → Base → Bool
on_lines line bits b = bit_of bits (line b)

-- two assignments give good bases the same bits
abbrev pub Agree : (Base → Type 0) → (Base → Bool) → (Base → Bool) → Type 0
Agree IsGood f g = (b : Base) → IsGood b → f b ≡ g b

-- the gates set the target to the exclusive or of its bit and a value, which rests on the bits of good bases
pub record AreAdding (IsGood : Base → Type 0) (line : Base → ℕ) (n target : ℕ) (gates : List GateView) (value : (Base → Bool) → Bool) : Type 0 where
  pub adds : (bits : List Bool) → length bits ≡ n
      → line_map gates bits ≡ set bits target (xor (value (on_lines line bits)) (bit_of bits target))
  pub rests : (f g : Base → Bool) → Agree IsGood f g → value f ≡ value g

-- the bits of good bases stay when the target is set
pub good_stay : (IsGood : Base → Type 0) (line : Base → ℕ) (n target : ℕ) → HaveLines IsGood line n target → (bits : List Bool) (b : Bool)
    → Agree IsGood (on_lines line (set bits target b)) (on_lines line bits)
good_stay IsGood line n target have bits b base good = get_or-set_other bits target (line base) b false (have.apart base good)

pub adding_none : (IsGood : Base → Type 0) (line : Base → ℕ) (n target : ℕ) → AreAdding IsGood line n target [] (λ f. false)
adding_none IsGood line n target = record {
  adds = λ bits size. sym (ap (set bits target) (xor_none (bit_of bits target)) ∙ set-get_or bits target false);
  rests = λ f g agree. refl;
}

pub adding_both : (IsGood : Base → Type 0) (line : Base → ℕ) (n target : ℕ) (some more : List GateView) (first second : (Base → Bool) → Bool)
    → HaveLines IsGood line n target → AreAdding IsGood line n target some first → AreAdding IsGood line n target more second
    → AreAdding IsGood line n target (some ++ more) (λ f. xor (first f) (second f))
adding_both IsGood line n target some more first second have a b = record {
  adds = λ bits size.
      (let v = first (on_lines line bits) in
      let once = set bits target (xor v (bit_of bits target)) in
      let long : length once ≡ n = length-set bits target (xor v (bit_of bits target)) ∙ size in
      let stays = b.rests (on_lines line once) (on_lines line bits) (good_stay IsGood line n target have bits (xor v (bit_of bits target))) in
      let w = second (on_lines line bits) in
      line_map-append some more bits
      ∙ ap (line_map more) (a.adds bits size)
      ∙ b.adds once long
      ∙ ap (λ x. set once target (xor x (bit_of once target))) stays
      ∙ set_again bits target (xor v (bit_of bits target)) w (omega (arith, have.target_low, size))
      ∙ ap (set bits target) (xor_in_turn v w (bit_of bits target)));
  rests = λ f g agree. ap₂ xor (a.rests f g agree) (b.rests f g agree);
}

-- gates for each element of a list
pub adding_all : {A : Type 0} (IsGood : Base → Type 0) (line : Base → ℕ) (n target : ℕ) (gates : A → List GateView) (value : (Base → Bool) → A → Bool)
    (xs : List A) → HaveLines IsGood line n target
    → AllByRecursion (λ x. AreAdding IsGood line n target (gates x) (λ f. value f x)) xs
    → AreAdding IsGood line n target (flat_map gates xs) (λ f. xor_by (value f) xs)
adding_all IsGood line n target gates value [] have each = adding_none IsGood line n target
adding_all IsGood line n target gates value (x ∷ xs) have each =
    adding_both IsGood line n target (gates x) (flat_map gates xs) (λ f. value f x) (λ f. xor_by (value f) xs) have each.0
    (adding_all IsGood line n target gates value xs have each.1)

-- ---- bits and the constant

one_bit : (IsGood : Base → Type 0) (line : Base → ℕ) (n target : ℕ) (b : Base) → IsGood b
    → AreAdding IsGood line n target (flip_of (line b ∷ []) target ∷ []) (λ f. f b)
one_bit IsGood line n target b good = record {
  adds = λ bits size. flip_by_one (line b) target bits;
  rests = λ f g agree. agree b good;
}

pub adding_bits : (IsGood : Base → Type 0) (line : Base → ℕ) (n target : ℕ) (xs : List Base) → HaveLines IsGood line n target
    → AllByRecursion IsGood xs → AreAdding IsGood line n target (bit_gates line target xs) (λ f. xor_by f xs)
adding_bits IsGood line n target [] have good = adding_none IsGood line n target
adding_bits IsGood line n target (x ∷ xs) have good =
    adding_both IsGood line n target (flip_of (line x ∷ []) target ∷ []) (bit_gates line target xs) (λ f. f x) (λ f. xor_by f xs) have
    (one_bit IsGood line n target x good.0) (adding_bits IsGood line n target xs have good.1)

pub adding_one : (IsGood : Base → Type 0) (line : Base → ℕ) (n target : ℕ) (one : Bool) → AreAdding IsGood line n target (one_gates target one) (λ f. one)
adding_one IsGood line n target true = record {
  adds = λ bits size. flip_always target bits ∙ ap (set bits target) (sym (xor_one (bit_of bits target)));
  rests = λ f g agree. refl;
}
adding_one IsGood line n target false = adding_none IsGood line n target

-- What the gates of a product do: both factors are gathered, the target is flipped, and the factors are taken off again.
use Rattle.std.proofs.Common.{◌≡◌, ◌≢◌, ℕ, ◌<◌, Bool, false, ◌&&◌, List, [], ◌∷◌, length, set, refl, sym, ap, ap₂, ◌∙◌, subst, arith}
use Rattle.std.specs.Bool.{xor}
use Rattle.std.specs.List.{AllByRecursion, flat_map}
use Rattle.std.proofs.lemmas.List.{get_or-set_same, get_or-set_other, set-get_or, set_comm, length-set}
use Rattle.list_facts.specs.Bits.{bit_of}
use Rattle.list_facts.proofs.BitLemmas.{xor_none}
use Rattle.bit_sums.specs.Sums.{xor_by}
use Rattle.mct_circuit.specs.Gates.{AreGatesOn, flip_of, line_map}
use Rattle.mct_circuit.proofs.ReversalLemmas.{conjugated, line_map-append}
use Rattle.sum_toggles.proofs.AddingLemmas.{flip_by_one, flip_by_two, set_again, xor_in_turn}
use Rattle.line_states.specs.Gathers.{PairView, both_gates, gather_gates, pair_gates}
use Rattle.line_states.specs.inside.Places.{ArePlaced}
use Rattle.line_states.proofs.GateLemmas.{both_on}

-- ---- a factor

pub lines_agree : (f g : ℕ → Bool) (P : ℕ → Type 0) (xs : List ℕ) → AllByRecursion P xs → ((l : ℕ) → P l → f l ≡ g l) → xor_by f xs ≡ xor_by g xs
lines_agree f g P [] all agree = refl
lines_agree f g P (x ∷ xs) all agree = ap₂ xor (agree x all.0) (lines_agree f g P xs all.1 agree)

-- setting a line leaves the bits of others
others_stay : (bits : List Bool) (on : ℕ) (c : Bool) (xs : List ℕ) → AllByRecursion (λ (l : ℕ). l ≢ on) xs
    → xor_by (bit_of (set bits on c)) xs ≡ xor_by (bit_of bits) xs
others_stay bits on c xs apart =
    lines_agree (bit_of (set bits on c)) (bit_of bits) (λ (l : ℕ). l ≢ on) xs apart (λ l ne. get_or-set_other bits on l c false ne)

-- the others are added to the line
gathers_set : (on : ℕ) (xs : List ℕ) (bits : List Bool) → on < length bits → AllByRecursion (λ (l : ℕ). l ≢ on) xs
    → line_map (gather_gates on xs) bits ≡ set bits on (xor (xor_by (bit_of bits) xs) (bit_of bits on))
gathers_set on [] bits low apart = sym (ap (set bits on) (xor_none (bit_of bits on)) ∙ set-get_or bits on false)
gathers_set on (x ∷ xs) bits low apart =
    let v = bit_of bits x in
    let c = xor v (bit_of bits on) in
    let once = set bits on c in
    let rest = xor_by (bit_of bits) xs in
    let long = length-set bits on c in
    ap (line_map (gather_gates on xs)) (flip_by_one x on bits)
    ∙ gathers_set on xs once (omega (arith, low, long)) apart.1
    ∙ ap (λ w. set once on (xor w (bit_of once on))) (others_stay bits on c xs apart.1)
    ∙ set_again bits on c rest low
    ∙ ap (set bits on) (xor_in_turn v rest (bit_of bits on))

-- ---- a product

-- the values that are gathered
abbrev pub first_value : List Bool → PairView → Bool
first_value bits pair = xor (xor_by (bit_of bits) pair.first.others) (bit_of bits pair.first.on)

abbrev pub second_value : List Bool → PairView → Bool
second_value bits pair = xor (xor_by (bit_of bits) pair.second.others) (bit_of bits pair.second.on)

abbrev pub pair_value : List Bool → PairView → Bool
pair_value bits pair = first_value bits pair && second_value bits pair

module _ (n target : ℕ) (low : target < n) (pair : PairView) (is : ArePlaced n target pair) where
  abbrev a : ℕ
  a = pair.first.on

  abbrev b : ℕ
  b = pair.second.on

  abbrev held : List Bool → List Bool
  held bits = set (set bits a (first_value bits pair)) b (second_value bits pair)

  both_held : (bits : List Bool) → length bits ≡ n → line_map (both_gates pair) bits ≡ held bits
  both_held bits size =
      let v = first_value bits pair in
      let once = set bits a v in
      let long = length-set bits a v in
      line_map-append (gather_gates a pair.first.others) (gather_gates b pair.second.others) bits
      ∙ ap (line_map (gather_gates b pair.second.others)) (gathers_set a pair.first.others bits (omega (arith, size, is.first.low)) is.first.own)
      ∙ gathers_set b pair.second.others once (omega (arith, size, long, is.second.low)) is.second.own
      ∙ ap (set once b) (ap₂ xor (others_stay bits a v pair.second.others is.stays) (get_or-set_other bits a b v false is.different))

  held_target : (bits : List Bool) → bit_of (held bits) target ≡ bit_of bits target
  held_target bits =
      get_or-set_other (set bits a (first_value bits pair)) b target (second_value bits pair) false (λ same. is.second.apart (sym same))
      ∙ get_or-set_other bits a target (first_value bits pair) false (λ same. is.first.apart (sym same))

  held_first : (bits : List Bool) → length bits ≡ n → bit_of (held bits) a ≡ first_value bits pair
  held_first bits size =
      get_or-set_other (set bits a (first_value bits pair)) b a (second_value bits pair) false (λ same. is.different (sym same))
      ∙ get_or-set_same bits a (first_value bits pair) false (omega (arith, size, is.first.low))

  held_second : (bits : List Bool) → length bits ≡ n → bit_of (held bits) b ≡ second_value bits pair
  held_second bits size =
      let long = length-set bits a (first_value bits pair) in
      get_or-set_same (set bits a (first_value bits pair)) b (second_value bits pair) false (omega (arith, size, long, is.second.low))

  -- the values stay when the target is set
  first_stays : (bits : List Bool) (c : Bool) → first_value (set bits target c) pair ≡ first_value bits pair
  first_stays bits c = ap₂ xor (others_stay bits target c pair.first.others is.first.others_apart) (get_or-set_other bits target a c false is.first.apart)

  second_stays : (bits : List Bool) (c : Bool) → second_value (set bits target c) pair ≡ second_value bits pair
  second_stays bits c = ap₂ xor (others_stay bits target c pair.second.others is.second.others_apart) (get_or-set_other bits target b c false is.second.apart)

  pub pair_stays : (bits : List Bool) (c : Bool) → pair_value (set bits target c) pair ≡ pair_value bits pair
  pair_stays bits c = ap₂ ◌&&◌ (first_stays bits c) (second_stays bits c)

  -- the target may be set before or after
  held_set : (bits : List Bool) (c : Bool) → held (set bits target c) ≡ set (held bits) target c
  held_set bits c =
      let v = first_value bits pair in
      let w = second_value bits pair in
      ap₂ (λ x y. set (set (set bits target c) a x) b y) (first_stays bits c) (second_stays bits c)
      ∙ ap (λ (z : List Bool). set z b w) (set_comm bits target a c v (λ same. is.first.apart (sym same)))
      ∙ set_comm (set bits a v) target b c w (λ same. is.second.apart (sym same))

  -- the gates of a product add its value to the target
  pub pair_adds : (bits : List Bool) → length bits ≡ n
      → line_map (pair_gates target pair) bits ≡ set bits target (xor (pair_value bits pair) (bit_of bits target))
  pair_adds bits size =
      let x = pair_value bits pair in
      let v = xor x (bit_of bits target) in
      let long : length (set bits target v) ≡ n = length-set bits target v ∙ size in
      conjugated (both_gates pair) (flip_of (a ∷ b ∷ []) target ∷ []) bits (held bits) (set bits target v) (set (held bits) target v)
      (subst (λ (m : ℕ). AreGatesOn m (both_gates pair)) (sym long) (both_on n target pair is))
      (both_held bits size)
      (both_held (set bits target v) long ∙ held_set bits v)
      (flip_by_two a b target (held bits) (first_value bits pair) (second_value bits pair) (held_first bits size) (held_second bits size)
      ∙ ap (λ c. set (held bits) target (xor x c)) (held_target bits))

-- ---- products, one after another

pub pairs_add : (n target : ℕ) → target < n → (pairs : List PairView) → AllByRecursion (ArePlaced n target) pairs → (bits : List Bool) → length bits ≡ n
    → line_map (flat_map (pair_gates target) pairs) bits ≡ set bits target (xor (xor_by (pair_value bits) pairs) (bit_of bits target))
pairs_add n target low [] are bits size = sym (ap (set bits target) (xor_none (bit_of bits target)) ∙ set-get_or bits target false)
pairs_add n target low (p ∷ ps) are bits size =
    let v = pair_value bits p in
    let c = xor v (bit_of bits target) in
    let once = set bits target c in
    let rest = xor_by (pair_value bits) ps in
    let long : length once ≡ n = length-set bits target c ∙ size in
    line_map-append (pair_gates target p) (flat_map (pair_gates target) ps) bits
    ∙ ap (line_map (flat_map (pair_gates target) ps)) (pair_adds n target low p are.0 bits size)
    ∙ pairs_add n target low ps are.1 once long
    ∙ ap (λ w. set once target (xor w (bit_of once target))) (all_stay ps are.1 bits c)
    ∙ set_again bits target c rest (omega (arith, size, low))
    ∙ ap (set bits target) (xor_in_turn v rest (bit_of bits target))
  where
    all_stay : (qs : List PairView) → AllByRecursion (ArePlaced n target) qs → (before : List Bool) (b : Bool)
        → xor_by (pair_value (set before target b)) qs ≡ xor_by (pair_value before) qs
    all_stay [] all before b = refl
    all_stay (q ∷ qs) all before b = ap₂ xor (pair_stays n target low q all.0 before b) (all_stay qs all.1 before b)

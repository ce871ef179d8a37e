-- What the gates of a product do: both factors are gathered, the target is flipped, and the factors are taken off again.
use Rattle.std.proofs.Common.{◌≡◌, ◌≢◌, ℕ, ◌<◌, Bool, false, ◌&&◌, List, [], ◌∷◌, ◌++◌, length, reverse, set, refl, sym, ap, ap₂, ◌∙◌, subst, inl, inr, arith}
use Rattle.std.specs.Bool.{xor}
use Rattle.std.specs.List.{AllByRecursion}
use Rattle.std.proofs.lemmas.Bool.{cases_Bool}
use Rattle.std.proofs.lemmas.List.{get_or-set_same, get_or-set_other, set-get_or, set_comm, length-set}
use Rattle.list_facts.specs.Bits.{bit_of}
use Rattle.list_facts.specs.Lists.{AreDifferent, IsAmong}
use Rattle.list_facts.proofs.AllLemmas.{AllByRecursion-append, AllByRecursion-reverse}
use Rattle.list_facts.proofs.AmongLemmas.{all_among}
use Rattle.list_facts.proofs.BitLemmas.{xor_none}
use Rattle.dependency_graph.specs.declared.node.Base.{Base}
use Rattle.dependency_graph.specs.Folds.{is_same}
use Rattle.dependency_graph.proofs.FoldLemmas.{other_bases}
use Rattle.bit_sums.specs.Products.{IsProduct}
use Rattle.bit_sums.specs.Sums.{ProductView, product_value, xor_by}
use Rattle.mct_circuit.specs.Gates.{AreGatesOn, IsGateOn, flip_of, line_map}
use Rattle.mct_circuit.proofs.ReversalLemmas.{conjugated, line_map-append, lines_of-flip_of}
use Rattle.sum_toggles.specs.Toggles.{HaveLines, both_gathered, gathers, own_base, product_gates}
use Rattle.sum_toggles.proofs.AddingLemmas.{AreAdding, flip_by_one, flip_by_two, good_stay, on_lines, set_again, xor_in_turn}
use Rattle.sum_toggles.proofs.OwnLemmas.{AllApart, first_own, other, others_agree, rising_different, second_own, with_own}

-- ---- gates on lines

-- a copy from one line to another
pub copy_on : (n line target : ℕ) → line < n → target < n → line ≢ target → IsGateOn n (flip_of (line ∷ []) target)
copy_on n line target low also apart = record {
  different = subst AreDifferent (sym (lines_of-flip_of (line ∷ []) target)) ((apart, tt), (tt, tt));
  in_range = subst (AllByRecursion (λ l. l < n)) (sym (lines_of-flip_of (line ∷ []) target)) (low, (also, tt));
}

module _ (IsGood : Base → Type 0) (line : Base → ℕ) (n target : ℕ) (have : HaveLines IsGood line n target) where
  apart_lines : (a b : Base) → IsGood a → IsGood b → a ≢ b → line a ≢ line b
  apart_lines a b good also ne same = ne (have.own a b good also same)

  pub gathers_on : (own : Base) (xs : List Base) → IsGood own → AllByRecursion IsGood xs → AreGatesOn n (gathers line own xs)
  gathers_on own [] good all = tt
  gathers_on own (x ∷ xs) good all = elim (cases_Bool (is_same x own)) as (λ _. AreGatesOn n (gathers line own (x ∷ xs))) [
    | inl e ↦ rw e (gathers_on own xs good all.1)
    | inr e ↦ rw e (
      copy_on n (line x) (line own) (have.low x all.0) (have.low own good) (apart_lines x own all.0 good (other_bases x own e)),
      gathers_on own xs good all.1,
    )
  ]

  -- the others of a factor are added to the line of its own bit
  gathers_set : (own : Base) (xs : List Base) (bits : List Bool) → length bits ≡ n → IsGood own → AllByRecursion IsGood xs
      → line_map (gathers line own xs) bits ≡ set bits (line own) (xor (xor_by (other own (on_lines line bits)) xs) (bit_of bits (line own)))
  gathers_set own [] bits size good all = sym (ap (set bits (line own)) (xor_none (bit_of bits (line own))) ∙ set-get_or bits (line own) false)
  gathers_set own (x ∷ xs) bits size good all =
      let p = line own in
      let rest = xor_by (other own (on_lines line bits)) xs in
      elim (cases_Bool (is_same x own)) as (λ _.
      line_map (gathers line own (x ∷ xs)) bits ≡ set bits p (xor (xor_by (other own (on_lines line bits)) (x ∷ xs)) (bit_of bits p))) [
        | inl e ↦ rw e (gathers_set own xs bits size good all.1 ∙ ap (λ v. set bits p (xor v (bit_of bits p))) (sym (xor_none rest)))
        | inr e ↦
            let v = bit_of bits (line x) in
            let once = set bits p (xor v (bit_of bits p)) in
            let long : length once ≡ n = length-set bits p (xor v (bit_of bits p)) ∙ size in
            let low = have.low own good in
            let stays : xor_by (other own (on_lines line once)) xs ≡ rest =
            others_agree IsGood own (on_lines line once) (on_lines line bits) xs all.1
            (λ b fine ne. get_or-set_other bits p (line b) (xor v (bit_of bits p)) false (apart_lines b own fine good ne)) in
            rw e (ap (line_map (gathers line own xs)) (flip_by_one (line x) p bits)
            ∙ gathers_set own xs once long good all.1
            ∙ ap (λ w. set once p (xor w (bit_of once p))) stays
            ∙ set_again bits p (xor v (bit_of bits p)) rest (omega (arith, low, size))
            ∙ ap (set bits p) (xor_in_turn v rest (bit_of bits p)))
      ]

  -- so the line of its own bit holds the factor
  factor_gathered : (own : Base) (xs : List Base) (bits : List Bool) → length bits ≡ n → AllByRecursion IsGood xs → AllApart xs → IsAmong own xs
      → line_map (gathers line own xs) bits ≡ set bits (line own) (xor_by (on_lines line bits) xs)
  factor_gathered own xs bits size all apart k =
      gathers_set own xs bits size (all_among IsGood xs all own k) all
      ∙ ap (set bits (line own)) (with_own own (on_lines line bits) xs apart k)

  bits_agree : (f g : Base → Bool) (xs : List Base) → AllByRecursion IsGood xs → ((b : Base) → IsGood b → IsAmong b xs → f b ≡ g b) → xor_by f xs ≡ xor_by g xs
  bits_agree f g [] all agree = refl
  bits_agree f g (x ∷ xs) all agree =
      ap₂ xor (agree x all.0 (inl refl)) (bits_agree f g xs all.1 (λ b good later. agree b good (inr later)))

  -- ---- a product

  module _ (p : ProductView) (is : IsProduct p) (first_good : AllByRecursion IsGood p.first) (second_good : AllByRecursion IsGood p.second) where
    abbrev a : Base
    a = own_base p.first p.second

    abbrev b : Base
    b = own_base p.second p.first

    good_a : IsGood a
    good_a = all_among IsGood p.first first_good a (first_own p is).here

    good_b : IsGood b
    good_b = all_among IsGood p.second second_good b (second_own p is).here

    lines_apart : line a ≢ line b
    lines_apart = apart_lines a b good_a good_b (λ same. (first_own p is).not_there (subst (λ c. IsAmong c p.second) (sym same) (second_own p is).here))

    -- the lines of the own bits hold the factors
    abbrev first_value : List Bool → Bool
    first_value bits = xor_by (on_lines line bits) p.first

    abbrev second_value : List Bool → Bool
    second_value bits = xor_by (on_lines line bits) p.second

    abbrev held : List Bool → List Bool
    held bits = set (set bits (line a) (first_value bits)) (line b) (second_value bits)

    both_held : (bits : List Bool) → length bits ≡ n → line_map (both_gathered line p) bits ≡ held bits
    both_held bits size =
        let v = first_value bits in
        let once = set bits (line a) v in
        let long : length once ≡ n = length-set bits (line a) v ∙ size in
        line_map-append (gathers line a p.first) (gathers line b p.second) bits
        ∙ ap (line_map (gathers line b p.second))
        (factor_gathered a p.first bits size first_good (rising_different p.first is.first.rises) (first_own p is).here)
        ∙ factor_gathered b p.second once long second_good (rising_different p.second is.second.rises) (second_own p is).here
        ∙ ap (set once (line b)) (bits_agree (on_lines line once) (on_lines line bits) p.second second_good
        (λ c good k. get_or-set_other bits (line a) (line c) v false
        (apart_lines c a good good_a (λ same. (first_own p is).not_there (subst (λ d. IsAmong d p.second) same k)))))

    held_target : (bits : List Bool) → bit_of (held bits) target ≡ bit_of bits target
    held_target bits =
        get_or-set_other (set bits (line a) (first_value bits)) (line b) target (second_value bits) false (λ same. have.apart b good_b (sym same))
        ∙ get_or-set_other bits (line a) target (first_value bits) false (λ same. have.apart a good_a (sym same))

    held_first : (bits : List Bool) → length bits ≡ n → bit_of (held bits) (line a) ≡ first_value bits
    held_first bits size =
        let low = have.low a good_a in
        get_or-set_other (set bits (line a) (first_value bits)) (line b) (line a) (second_value bits) false lines_apart
        ∙ get_or-set_same bits (line a) (first_value bits) false (omega (arith, low, size))

    held_second : (bits : List Bool) → length bits ≡ n → bit_of (held bits) (line b) ≡ second_value bits
    held_second bits size =
        let low = have.low b good_b in
        let long = length-set bits (line a) (first_value bits) in
        get_or-set_same (set bits (line a) (first_value bits)) (line b) (second_value bits) false (omega (arith, low, size, long))

    -- the target may be set before or after
    held_set : (bits : List Bool) (c : Bool) → held (set bits target c) ≡ set (held bits) target c
    held_set bits c =
        let v = first_value bits in
        let w = second_value bits in
        let first : first_value (set bits target c) ≡ v =
        bits_agree (on_lines line (set bits target c)) (on_lines line bits) p.first first_good (λ d good k. good_stay IsGood line n target have bits c d good)
        in
        let second : second_value (set bits target c) ≡ w =
        bits_agree (on_lines line (set bits target c)) (on_lines line bits) p.second second_good (λ d good k. good_stay IsGood line n target have bits c d good)
        in
        ap₂ (λ x y. set (set (set bits target c) (line a) x) (line b) y) first second
        ∙ ap (λ (z : List Bool). set z (line b) w) (set_comm bits target (line a) c v (λ same. have.apart a good_a (sym same)))
        ∙ set_comm (set bits (line a) v) target (line b) c w (λ same. have.apart b good_b (sym same))

    both_on : AreGatesOn n (both_gathered line p)
    both_on =
        AllByRecursion-append (IsGateOn n) (gathers line a p.first) (gathers line b p.second) (gathers_on a p.first good_a first_good)
        (gathers_on b p.second good_b second_good)

    -- the gates of a product add its value to the target
    pub product_adds : AreAdding IsGood line n target (product_gates line target p) (λ f. product_value f p)
    product_adds = record {
      adds = λ bits size.
          (let x = first_value bits && second_value bits in
          let v = xor x (bit_of bits target) in
          let long : length (set bits target v) ≡ n = length-set bits target v ∙ size in
          conjugated (both_gathered line p) (flip_of (line a ∷ line b ∷ []) target ∷ []) bits (held bits) (set bits target v) (set (held bits) target v)
          (subst (λ (m : ℕ). AreGatesOn m (both_gathered line p)) (sym long) both_on)
          (both_held bits size)
          (both_held (set bits target v) long ∙ held_set bits v)
          (flip_by_two (line a) (line b) target (held bits) (first_value bits) (second_value bits) (held_first bits size) (held_second bits size)
          ∙ ap (λ c. set (held bits) target (xor x c)) (held_target bits)));
      rests = λ f g agree. ap₂ ◌&&◌ (bits_agree f g p.first first_good (λ c good k. agree c good))
          (bits_agree f g p.second second_good (λ c good k. agree c good));
    }

    -- they are on the lines
    pub product_on : AreGatesOn n (product_gates line target p)
    product_on =
        let flip : IsGateOn n (flip_of (line a ∷ line b ∷ []) target) = record {
          different = subst AreDifferent (sym (lines_of-flip_of (line a ∷ line b ∷ []) target))
              ((lines_apart, (have.apart a good_a, tt)), ((have.apart b good_b, tt), (tt, tt)));
          in_range = subst (AllByRecursion (λ l. l < n)) (sym (lines_of-flip_of (line a ∷ line b ∷ []) target))
              (have.low a good_a, (have.low b good_b, (have.target_low, tt)));
        } in
        AllByRecursion-append (IsGateOn n) (both_gathered line p ++ flip_of (line a ∷ line b ∷ []) target ∷ []) (reverse (both_gathered line p))
        (AllByRecursion-append (IsGateOn n) (both_gathered line p) (flip_of (line a ∷ line b ∷ []) target ∷ []) both_on (flip, tt))
        (AllByRecursion-reverse (IsGateOn n) (both_gathered line p) both_on)

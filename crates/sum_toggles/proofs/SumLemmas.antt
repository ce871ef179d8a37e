-- The gates of a sum: they add its value to the target, are narrow, stand on the lines, and weigh the same on any lines.
use Rattle.std.proofs.Common.{◌≡◌, ◌≢◌, ℕ, suc, ◌+◌, ◌<◌, ◌≤◌, Bool, true, false, cond, List, [], ◌∷◌}
use Rattle.std.proofs.Common.{◌++◌, length, reverse, set, sum_by, refl, sym, ap, ap₂, ◌∙◌, subst, inl, inr, arith}
use Rattle.std.specs.Bool.{xor}
use Rattle.std.specs.List.{AllByRecursion, flat_map}
use Rattle.std.proofs.lemmas.Bool.{cases_Bool}
use Rattle.std.proofs.lemmas.List.Sums.{sum_by-append}
use Rattle.list_facts.specs.Bits.{bit_of}
use Rattle.list_facts.specs.Lists.{AreDifferent, IsAmong}
use Rattle.list_facts.proofs.AllLemmas.{AllByRecursion-append, AllByRecursion-left, AllByRecursion-reverse, AllByRecursion-right}
use Rattle.list_facts.proofs.BitLemmas.{xor_swap}
use Rattle.dependency_graph.specs.declared.node.Base.{Base}
use Rattle.dependency_graph.specs.Folds.{is_same}
use Rattle.dependency_graph.proofs.FoldLemmas.{other_bases, same_bases}
use Rattle.bit_sums.specs.Products.{IsProduct}
use Rattle.bit_sums.specs.Sums.{ProductView, SumView, bases_of, product_bases, product_value, sum_value, xor_by}
use Rattle.mct_circuit.specs.Gates.{AreGatesOn, AreNarrow, GateView, IsGateOn, IsNarrow, flip_of}
use Rattle.mct_circuit.specs.Sizes.{weight_in, weight_of}
use Rattle.mct_circuit.proofs.ReversalLemmas.{lines_of-flip_of}
use Rattle.mct_circuit.proofs.WeightLemmas.{weight-reverse}
use Rattle.sum_toggles.specs.Toggles.{HaveLines, bit_gates, both_gathered, gathers, one_gates}
use Rattle.sum_toggles.specs.Toggles.{own_base, product_gates, product_weight, sum_gates, toggle_weight}
use Rattle.sum_toggles.proofs.AddingLemmas.{AreAdding, adding_all, adding_bits, adding_both, adding_one, on_lines}
use Rattle.sum_toggles.proofs.GatherLemmas.{copy_on, product_adds, product_on}
use Rattle.sum_toggles.proofs.OwnLemmas.{AllApart, own_is, rising_different}

-- ---- good bases of a sum

good_products : (IsGood : Base → Type 0) (ps : List ProductView) → AllByRecursion IsGood (flat_map product_bases ps)
    → AllByRecursion (λ p. AllByRecursion IsGood (product_bases p)) ps
good_products IsGood [] good = tt
good_products IsGood (p ∷ ps) good = (
  AllByRecursion-left IsGood (product_bases p) (flat_map product_bases ps) good,
  good_products IsGood ps (AllByRecursion-right IsGood (product_bases p) (flat_map product_bases ps) good),
)

-- ---- what the gates add

adding_same : (IsGood : Base → Type 0) (line : Base → ℕ) (n target : ℕ) (gates : List GateView) (value also : (Base → Bool) → Bool)
    → ((f : Base → Bool) → value f ≡ also f) → AreAdding IsGood line n target gates value → AreAdding IsGood line n target gates also
adding_same IsGood line n target gates value also same a = record {
  adds = λ bits size. a.adds bits size ∙ ap (λ v. set bits target (xor v (bit_of bits target))) (same (on_lines line bits));
  rests = λ f g agree. sym (same f) ∙ a.rests f g agree ∙ same g;
}

module _ (IsGood : Base → Type 0) (line : Base → ℕ) (n target : ℕ) (have : HaveLines IsGood line n target) where
  products_add : (ps : List ProductView) → AllByRecursion IsProduct ps → AllByRecursion (λ p. AllByRecursion IsGood (product_bases p)) ps
      → AllByRecursion (λ p. AreAdding IsGood line n target (product_gates line target p) (λ f. product_value f p)) ps
  products_add [] are good = tt
  products_add (p ∷ ps) are good = (
    product_adds IsGood line n target have p are.0 (AllByRecursion-left IsGood p.first p.second good.0) (AllByRecursion-right IsGood p.first p.second good.0),
    products_add ps are.1 good.1,
  )

  products_on : (ps : List ProductView) → AllByRecursion IsProduct ps → AllByRecursion (λ p. AllByRecursion IsGood (product_bases p)) ps
      → AreGatesOn n (flat_map (product_gates line target) ps)
  products_on [] are good = tt
  products_on (p ∷ ps) are good =
      AllByRecursion-append (IsGateOn n) (product_gates line target p) (flat_map (product_gates line target) ps)
      (product_on IsGood line n target have p are.0 (AllByRecursion-left IsGood p.first p.second good.0) (AllByRecursion-right IsGood p.first p.second good.0))
      (products_on ps are.1 good.1)

  bits_on : (xs : List Base) → AllByRecursion IsGood xs → AreGatesOn n (bit_gates line target xs)
  bits_on [] good = tt
  bits_on (x ∷ xs) good = (copy_on n (line x) target (have.low x good.0) have.target_low (have.apart x good.0), bits_on xs good.1)

  one_on : (one : Bool) → AreGatesOn n (one_gates target one)
  one_on true = (
    record {
      different = subst AreDifferent (sym (lines_of-flip_of [] target)) (tt, tt);
      in_range = subst (AllByRecursion (λ l. l < n)) (sym (lines_of-flip_of [] target)) (have.target_low, tt);
    },
    tt,
  )
  one_on false = tt

  -- the gates of a sum set the target to the exclusive or of its bit and the value of the sum
  pub sum_adds : (s : SumView) → AllByRecursion IsProduct s.products → AllByRecursion IsGood (bases_of s)
      → AreAdding IsGood line n target (sum_gates line target s) (λ f. sum_value f s)
  sum_adds s are good =
      let products = flat_map (product_gates line target) s.products in
      let more = AllByRecursion-right IsGood s.bits (flat_map product_bases s.products) good in
      adding_same IsGood line n target (sum_gates line target s) (λ f. xor (xor (xor_by f s.bits) (xor_by (product_value f) s.products)) s.one)
      (λ f. sum_value f s)
      (λ f. xor_swap (xor (xor_by f s.bits) (xor_by (product_value f) s.products)) s.one)
      (adding_both IsGood line n target (bit_gates line target s.bits ++ products) (one_gates target s.one)
      (λ f. xor (xor_by f s.bits) (xor_by (product_value f) s.products)) (λ f. s.one) have
      (adding_both IsGood line n target (bit_gates line target s.bits) products (λ f. xor_by f s.bits) (λ f. xor_by (product_value f) s.products) have
      (adding_bits IsGood line n target s.bits have (AllByRecursion-left IsGood s.bits (flat_map product_bases s.products) good))
      (adding_all IsGood line n target (product_gates line target) (λ f p. product_value f p) s.products have
      (products_add s.products are (good_products IsGood s.products more))))
      (adding_one IsGood line n target s.one))

  -- each of them is a gate on the lines
  pub sums_on : (s : SumView) → AllByRecursion IsProduct s.products → AllByRecursion IsGood (bases_of s) → AreGatesOn n (sum_gates line target s)
  sums_on s are good =
      let products = flat_map (product_gates line target) s.products in
      let more = AllByRecursion-right IsGood s.bits (flat_map product_bases s.products) good in
      AllByRecursion-append (IsGateOn n) (bit_gates line target s.bits ++ products) (one_gates target s.one)
      (AllByRecursion-append (IsGateOn n) (bit_gates line target s.bits) products
      (bits_on s.bits (AllByRecursion-left IsGood s.bits (flat_map product_bases s.products) good))
      (products_on s.products are (good_products IsGood s.products more)))
      (one_on s.one)

-- ---- all gates are narrow

narrow_flip : (controls : List ℕ) (target : ℕ) → length controls ≤ 2 → IsNarrow (flip_of controls target)
narrow_flip controls target few = record { controls = controls; target = target; few = few; is_flip = refl }

narrow_gathers : (line : Base → ℕ) (own : Base) (xs : List Base) → AreNarrow (gathers line own xs)
narrow_gathers line own [] = tt
narrow_gathers line own (x ∷ xs) = elim (cases_Bool (is_same x own)) as (λ _. AreNarrow (gathers line own (x ∷ xs))) [
  | inl e ↦ rw e (narrow_gathers line own xs)
  | inr e ↦ rw e (narrow_flip (line x ∷ []) (line own) (omega arith), narrow_gathers line own xs)
]

narrow_product : (line : Base → ℕ) (target : ℕ) (p : ProductView) → AreNarrow (product_gates line target p)
narrow_product line target p =
    let a = own_base p.first p.second in
    let b = own_base p.second p.first in
    let both = AllByRecursion-append IsNarrow (gathers line a p.first) (gathers line b p.second) (narrow_gathers line a p.first)
    (narrow_gathers line b p.second) in
    AllByRecursion-append IsNarrow (both_gathered line p ++ flip_of (line a ∷ line b ∷ []) target ∷ []) (reverse (both_gathered line p))
    (AllByRecursion-append IsNarrow (both_gathered line p) (flip_of (line a ∷ line b ∷ []) target ∷ []) both
    (narrow_flip (line a ∷ line b ∷ []) target (omega arith), tt))
    (AllByRecursion-reverse IsNarrow (both_gathered line p) both)

narrow_products : (line : Base → ℕ) (target : ℕ) (ps : List ProductView) → AreNarrow (flat_map (product_gates line target) ps)
narrow_products line target [] = tt
narrow_products line target (p ∷ ps) =
    AllByRecursion-append IsNarrow (product_gates line target p) (flat_map (product_gates line target) ps) (narrow_product line target p)
    (narrow_products line target ps)

narrow_bits : (line : Base → ℕ) (target : ℕ) (xs : List Base) → AreNarrow (bit_gates line target xs)
narrow_bits line target [] = tt
narrow_bits line target (x ∷ xs) = (narrow_flip (line x ∷ []) target (omega arith), narrow_bits line target xs)

narrow_one : (target : ℕ) (one : Bool) → AreNarrow (one_gates target one)
narrow_one target true = (narrow_flip [] target (omega arith), tt)
narrow_one target false = tt

pub narrow_sum : (line : Base → ℕ) (target : ℕ) (s : SumView) → AreNarrow (sum_gates line target s)
narrow_sum line target s =
    AllByRecursion-append IsNarrow (bit_gates line target s.bits ++ flat_map (product_gates line target) s.products) (one_gates target s.one)
    (AllByRecursion-append IsNarrow (bit_gates line target s.bits) (flat_map (product_gates line target) s.products)
    (narrow_bits line target s.bits) (narrow_products line target s.products))
    (narrow_one target s.one)

-- ---- weights

-- one copy more
weight_copy : (line target : ℕ) (gates : List GateView) → weight_in (flip_of (line ∷ []) target ∷ gates) ≡ suc (weight_in gates)
weight_copy line target gates = sum_by-append weight_of (flip_of (line ∷ []) target ∷ []) gates ∙ omega arith

-- every bit but the own one is gathered by a gate
weight_others : (line : Base → ℕ) (own : Base) (xs : List Base) → AllByRecursion (λ y. own ≢ y) xs → weight_in (gathers line own xs) ≡ length xs
weight_others line own [] apart = refl
weight_others line own (x ∷ xs) apart = elim (cases_Bool (is_same x own)) as (λ _. weight_in (gathers line own (x ∷ xs)) ≡ length (x ∷ xs)) [
  | inl e ↦ absurd (apart.0 (sym (same_bases x own e)))
  | inr e ↦ rw e (weight_copy (line x) (line own) (gathers line own xs) ∙ ap suc (weight_others line own xs apart.1))
]

weight_gathers : (line : Base → ℕ) (own : Base) (xs : List Base) → AllApart xs → IsAmong own xs → weight_in (gathers line own xs) + 1 ≡ length xs
weight_gathers line own [] apart k = absurd k
weight_gathers line own (x ∷ xs) apart k = elim (cases_Bool (is_same x own)) as (λ _. weight_in (gathers line own (x ∷ xs)) + 1 ≡ length (x ∷ xs)) [
  | inl e ↦
      let rest = weight_others line own xs (subst (λ z. AllByRecursion (λ y. z ≢ y) xs) (same_bases x own e) apart.0) in
      rw e (omega (arith, rest))
  | inr e ↦
      let later : IsAmong own xs = elim k as (λ _. IsAmong own xs) [ inl same ↦ absurd (other_bases x own e (sym same)) | inr there ↦ there ] in
      let rest = weight_gathers line own xs apart.1 later in
      let next : suc (weight_in (gathers line own xs)) + 1 ≡ suc (length xs) = omega (arith, rest) in
      rw e (ap (λ w. w + 1) (weight_copy (line x) (line own) (gathers line own xs)) ∙ next)
]

weight_product : (line : Base → ℕ) (target : ℕ) (p : ProductView) → IsProduct p → weight_in (product_gates line target p) ≡ product_weight p
weight_product line target p is =
    let a = own_base p.first p.second in
    let b = own_base p.second p.first in
    let flip = flip_of (line a ∷ line b ∷ []) target in
    let one : weight_of flip ≡ 1 = refl in
    let whole = sum_by-append weight_of (both_gathered line p ++ flip ∷ []) (reverse (both_gathered line p)) in
    let front = sum_by-append weight_of (both_gathered line p) (flip ∷ []) in
    let both = sum_by-append weight_of (gathers line a p.first) (gathers line b p.second) in
    let back = weight-reverse (both_gathered line p) in
    let first = weight_gathers line a p.first (rising_different p.first is.first.rises) (own_is p.first p.second is.own).here in
    let second = weight_gathers line b p.second (rising_different p.second is.second.rises) (own_is p.second p.first is.other).here in
    omega (arith, whole, front, both, back, first, second)

weight_products : (line : Base → ℕ) (target : ℕ) (ps : List ProductView) → AllByRecursion IsProduct ps
    → weight_in (flat_map (product_gates line target) ps) ≡ sum_by product_weight ps
weight_products line target [] are = refl
weight_products line target (p ∷ ps) are =
    sum_by-append weight_of (product_gates line target p) (flat_map (product_gates line target) ps)
    ∙ ap₂ ◌+◌ (weight_product line target p are.0) (weight_products line target ps are.1)
    ∙ sym (sum_by-append product_weight (p ∷ []) ps ∙ omega arith)

weight_bits : (line : Base → ℕ) (target : ℕ) (xs : List Base) → weight_in (bit_gates line target xs) ≡ length xs
weight_bits line target [] = refl
weight_bits line target (x ∷ xs) = weight_copy (line x) target (bit_gates line target xs) ∙ ap suc (weight_bits line target xs)

weight_one : (target : ℕ) (one : Bool) → weight_in (one_gates target one) ≡ cond one 1 0
weight_one target true = refl
weight_one target false = refl

pub weight_sum : (line : Base → ℕ) (target : ℕ) (s : SumView) → AllByRecursion IsProduct s.products → weight_in (sum_gates line target s) ≡ toggle_weight s
weight_sum line target s are =
    sum_by-append weight_of (bit_gates line target s.bits ++ flat_map (product_gates line target) s.products) (one_gates target s.one)
    ∙ ap₂ ◌+◌ (sum_by-append weight_of (bit_gates line target s.bits) (flat_map (product_gates line target) s.products)
    ∙ ap₂ ◌+◌ (weight_bits line target s.bits) (weight_products line target s.products are)) (weight_one target s.one)

-- Flips under two lines: the gates of a sum have one for each product.
use Rattle.std.proofs.Common.{◌≡◌, ℕ, ◌+◌, Bool, true, false, cond, List, [], ◌∷◌, ◌++◌, length, reverse, sum_by, refl, ◌∙◌, inl, inr, arith}
use Rattle.std.specs.List.{flat_map}
use Rattle.std.proofs.lemmas.Bool.{cases_Bool}
use Rattle.std.proofs.lemmas.List.Sorted.{IsPermutation-reverse, sum_by-IsPermutation}
use Rattle.std.proofs.lemmas.List.Sums.{sum_by-append, sum_by_push}
use Rattle.dependency_graph.specs.declared.node.Base.{Base}
use Rattle.dependency_graph.specs.Folds.{is_same}
use Rattle.bit_sums.specs.Sums.{ProductView, SumView}
use Rattle.mct_circuit.specs.Gates.{GateView, flip_of}
use Rattle.mct_circuit.specs.Sizes.{is_flip_under}
use Rattle.sum_toggles.specs.Toggles.{bit_gates, both_gathered, gathers, one_gates, own_base, product_gates, sum_gates}

-- 1 for a flip under two lines, 0 for any other gate
abbrev pub ccx_of : GateView → ℕ
ccx_of gate = cond (is_flip_under 2 gate) 1 0

abbrev pub ccx_in : List GateView → ℕ
ccx_in gates = sum_by ccx_of gates

pub ccx-append : (front back : List GateView) → ccx_in (front ++ back) ≡ ccx_in front + ccx_in back
ccx-append front back = sum_by-append ccx_of front back

pub ccx-reverse : (gates : List GateView) → ccx_in (reverse gates) ≡ ccx_in gates
ccx-reverse gates = sum_by-IsPermutation ccx_of gates (reverse gates) (IsPermutation-reverse gates)

-- a copy is none
copy_none : (line target : ℕ) (gates : List GateView) → ccx_in (flip_of (line ∷ []) target ∷ gates) ≡ ccx_in gates
copy_none line target gates = ccx-append (flip_of (line ∷ []) target ∷ []) gates ∙ omega arith

gathers_none : (line : Base → ℕ) (own : Base) (xs : List Base) → ccx_in (gathers line own xs) ≡ 0
gathers_none line own [] = refl
gathers_none line own (x ∷ xs) = elim (cases_Bool (is_same x own)) as (λ _. ccx_in (gathers line own (x ∷ xs)) ≡ 0) [
  | inl e ↦ rw e (gathers_none line own xs)
  | inr e ↦ rw e (copy_none (line x) (line own) (gathers line own xs) ∙ gathers_none line own xs)
]

product_one : (line : Base → ℕ) (target : ℕ) (p : ProductView) → ccx_in (product_gates line target p) ≡ 1
product_one line target p =
    let a = own_base p.first p.second in
    let b = own_base p.second p.first in
    let flip = flip_of (line a ∷ line b ∷ []) target in
    let one : ccx_of flip ≡ 1 = refl in
    let whole = ccx-append (both_gathered line p ++ flip ∷ []) (reverse (both_gathered line p)) in
    let front = sum_by_push ccx_of (both_gathered line p) flip in
    let both = ccx-append (gathers line a p.first) (gathers line b p.second) in
    let back = ccx-reverse (both_gathered line p) in
    omega (arith, whole, front, both, back, one, gathers_none line a p.first, gathers_none line b p.second)

ccx_products : (line : Base → ℕ) (target : ℕ) (ps : List ProductView) → ccx_in (flat_map (product_gates line target) ps) ≡ length ps
ccx_products line target [] = refl
ccx_products line target (p ∷ ps) =
    let all = ccx-append (product_gates line target p) (flat_map (product_gates line target) ps) in
    omega (arith, all, product_one line target p, ccx_products line target ps)

ccx_bits : (line : Base → ℕ) (target : ℕ) (xs : List Base) → ccx_in (bit_gates line target xs) ≡ 0
ccx_bits line target [] = refl
ccx_bits line target (x ∷ xs) = copy_none (line x) target (bit_gates line target xs) ∙ ccx_bits line target xs

ccx_one : (target : ℕ) (one : Bool) → ccx_in (one_gates target one) ≡ 0
ccx_one target true = refl
ccx_one target false = refl

pub ccx_sum : (line : Base → ℕ) (target : ℕ) (s : SumView) → ccx_in (sum_gates line target s) ≡ length s.products
ccx_sum line target s =
    let products = flat_map (product_gates line target) s.products in
    let whole = ccx-append (bit_gates line target s.bits ++ products) (one_gates target s.one) in
    let front = ccx-append (bit_gates line target s.bits) products in
    omega (arith, whole, front, ccx_bits line target s.bits, ccx_products line target s.products, ccx_one target s.one)

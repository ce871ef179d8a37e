-- Products that go out of a list or come in, and sums of two.
use Rattle.std.proofs.Common.{◌≡◌, ℕ, ◌+◌, ◌≤◌, Bool, List, [], ◌∷◌, ◌++◌, length, take, slice_get, Some}
use Rattle.std.proofs.Common.{sym, ap, ap₂, ◌∙◌, subst}
use Rattle.std.specs.Bool.{xor}
use Rattle.std.specs.List.{swap_remove}
use Rattle.std.proofs.lemmas.List.{take_all}
use Rattle.list_facts.proofs.BitLemmas.{xor_left, xor_nothing, xor_same, xor_swap, xor_none}
use Rattle.bit_sums.specs.Bits.{apart}
use Rattle.bit_sums.specs.Sums.{ProductView, SumView, product_value, xor_by}
use Rattle.bit_sums.proofs.GrowingLemmas.{taken, value-permutation}
use Rattle.bit_sums.proofs.SetLemmas.{value-append, value-apart}
use Rattle.wide_sums.specs.Wide.{IsAdded}
use Rattle.wide_sums.specs.inside.Toggles.{IsToggled}
use Rattle.wide_sums.proofs.FormLemmas.{interchange, take_next}

cancelled : (p s : Bool) → s ≡ xor (xor p s) p
cancelled p s = sym (xor_none s) ∙ ap (λ v. xor v s) (sym (xor_same p)) ∙ sym (xor_left p p s) ∙ xor_swap p (xor p s)

-- a product goes out
pub toggled_out : (old new : List ProductView) (i : ℕ) (p : ProductView) → slice_get old i ≡ Some p → new ≡ swap_remove old i p → IsToggled (p ∷ []) old new
toggled_out old new i p e out = record {
  values = λ bit.
      let test = product_value bit in
      let whole : xor_by test old ≡ xor (test p) (xor_by test new) =
      value-permutation test old (p ∷ swap_remove old i p) (taken old i p e) ∙ ap (λ l. xor (test p) (xor_by test l)) (sym out) in
      cancelled (test p) (xor_by test new) ∙ ap₂ xor (sym whole) (sym (xor_nothing (test p)));
}

-- a product comes in
pub toggled_in : (old new : List ProductView) (p : ProductView) → new ≡ old ++ p ∷ [] → IsToggled (p ∷ []) old new
toggled_in old new p more = record { values = λ bit. ap (xor_by (product_value bit)) more ∙ value-append (product_value bit) old (p ∷ []) }

pub toggled_begun : (old : List ProductView) → IsToggled [] old old
toggled_begun old = record { values = λ bit. sym (xor_nothing (xor_by (product_value bit) old)) }

pub toggled_next : (others : List ProductView) (i : ℕ) (p : ProductView) (old mid new : List ProductView) → slice_get others i ≡ Some p
    → IsToggled (take i others) old mid → IsToggled (p ∷ []) mid new → IsToggled (take (i + 1) others) old new
toggled_next others i p old mid new e before is = rw (take_next others i p e) (record {
  values = λ bit.
      let test = product_value bit in
      is.values bit
      ∙ ap (λ v. xor v (xor_by test (p ∷ []))) (before.values bit)
      ∙ sym (xor_left (xor_by test old) (xor_by test (take i others)) (xor_by test (p ∷ [])))
      ∙ ap (xor (xor_by test old)) (sym (value-append test (take i others) (p ∷ [])));
})

pub toggled_done : (others : List ProductView) (i : ℕ) (old new : List ProductView) → length others ≤ i → IsToggled (take i others) old new
    → IsToggled others old new
toggled_done others i old new end is = subst (λ l. IsToggled l old new) (take_all i others end) is

-- the sum of two
pub added : (s t sum : SumView) → sum.bits ≡ apart s.bits t.bits → IsToggled t.products s.products sum.products → sum.one ≡ xor s.one t.one
    → IsAdded s t sum
added s t sum bits products one = record {
  values = λ bit.
      ap₂ xor one (ap₂ xor (ap (xor_by bit) bits ∙ value-apart bit s.bits t.bits) (products.values bit)
      ∙ interchange (xor_by bit s.bits) (xor_by bit t.bits) (xor_by (product_value bit) s.products) (xor_by (product_value bit) t.products))
      ∙ interchange s.one t.one (xor (xor_by bit s.bits) (xor_by (product_value bit) s.products))
      (xor (xor_by bit t.bits) (xor_by (product_value bit) t.products));
}

-- Forms: sums of two, and axes that are added.
use Rattle.std.proofs.Common.{◌≡◌, ℕ, ◌+◌, ◌-◌, ◌≤◌, ◌^◌, ◌==◌, bit_xor, Bool, true, false, List, [], ◌∷◌, ◌++◌, length, take, slice_get, Some}
use Rattle.std.proofs.Common.{refl, ap, ap₂, ◌∙◌, subst}
use Rattle.std.specs.Bool.{xor}
use Rattle.std.proofs.lemmas.List.{take_all, take_more}
use Rattle.std.proofs.lemmas.Nat.Bits.{bit_at-zero}
use Rattle.std.proofs.lemmas.Option.{get_or_from_slice_get, slice_get_within}
use Rattle.list_facts.proofs.AllLemmas.{AllByRecursion-left, AllByRecursion-right}
use Rattle.list_facts.proofs.BitLemmas.{xor_nothing}
use Rattle.list_facts.proofs.TableLemmas.{of_four_bits}
use Rattle.circuit_sim.specs.Planes.{plane_bit}
use Rattle.circuit_sim.proofs.PlaneLemmas.{plane_bit-ones, plane_bit-xor}
use Rattle.bit_sums.specs.Bits.{apart}
use Rattle.bit_sums.specs.Sums.{xor_by}
use Rattle.bit_sums.proofs.SetLemmas.{value-apart}
use Rattle.wide_sums.specs.declared.form.Form.{Form}
use Rattle.wide_sums.specs.inside.Forms.{IsFormSum, IsOnes, IsReduced, form_value}

pub interchange : (a b c d : Bool) → xor (xor a b) (xor c d) ≡ xor (xor a c) (xor b d)
unfolding mathlib.Core.Bool.xor
interchange = of_four_bits (λ a b c d. xor (xor a b) (xor c d)) (λ a b c d. xor (xor a c) (xor b d)) refl

pub take_next : {A : Type 0} (xs : List A) (k : ℕ) (x : A) → slice_get xs k ≡ Some x → take (k + 1) xs ≡ take k xs ++ x ∷ []
take_next xs k x e = take_more xs k x (slice_get_within xs k x e) ∙ ap (λ y. take k xs ++ y ∷ []) (get_or_from_slice_get xs k x x e)

pub plane_bit-zero : (row : ℕ) → plane_bit row 0 ≡ false
plane_bit-zero row = ap (λ (x : ℕ). x == 1) (bit_at-zero row)

-- ---- sums of two

pub form_sum : (a b sum : Form) → sum.bits.items ≡ apart a.bits.items b.bits.items → sum.word ≡ bit_xor a.word b.word → IsFormSum a b sum
form_sum a b sum bits word = record {
  values = λ bit row.
      ap₂ xor (ap (xor_by bit) bits ∙ value-apart bit a.bits.items b.bits.items) (ap (plane_bit row) word ∙ plane_bit-xor row a.word b.word)
      ∙ interchange (xor_by bit a.bits.items) (xor_by bit b.bits.items) (plane_bit row a.word) (plane_bit row b.word);
}

-- ---- axes

pub reduced_begun : (axes : List Form) (form : Form) → IsReduced axes form form
reduced_begun axes form = record { values = λ bit row zero. refl }

pub reduced_by : (axis form sum : Form) → IsFormSum form axis sum → IsReduced (axis ∷ []) form sum
reduced_by axis form sum is = record {
  values = λ bit row zero. is.values bit row ∙ ap (xor (form_value bit row form)) zero.0 ∙ xor_nothing (form_value bit row form);
}

pub reduced_next : (axes : List Form) (i : ℕ) (axis form so_far next : Form) → slice_get axes i ≡ Some axis → IsReduced (take i axes) form so_far
    → IsReduced (axis ∷ []) so_far next → IsReduced (take (i + 1) axes) form next
reduced_next axes i axis form so_far next e before is = rw (take_next axes i axis e) (record {
  values = λ bit row zero.
      let P = λ (f : Form). form_value bit row f ≡ false in
      is.values bit row (AllByRecursion-right P (take i axes) (axis ∷ []) zero)
      ∙ before.values bit row (AllByRecursion-left P (take i axes) (axis ∷ []) zero);
})

pub reduced_done : (axes : List Form) (i : ℕ) (form reduced : Form) → length axes ≤ i → IsReduced (take i axes) form reduced → IsReduced axes form reduced
reduced_done axes i form reduced end is = subst (λ l. IsReduced l form reduced) (take_all i axes end) is

-- ---- words of one bit

pub ones_true : IsOnes true (2 ^ 64 - 1)
ones_true = record { each = λ row low. plane_bit-ones row low }

pub ones_false : IsOnes false 0
ones_false = record { each = λ row low. plane_bit-zero row }

-- Forms of sums, over bases whose forms are known.
use Rattle.std.proofs.Common.{◌≡◌, ℕ, ◌+◌, ◌≤◌, bit_and, bit_xor, Bool, false, ◌&&◌, List, [], ◌∷◌, length, take, slice_get, Some}
use Rattle.std.proofs.Common.{sym, ap, ap₂, ◌∙◌, subst}
use Rattle.std.specs.Bool.{xor}
use Rattle.std.proofs.lemmas.List.{take_all}
use Rattle.std.proofs.lemmas.Option.{get_or_from_slice_get, slice_get_within}
use Rattle.list_facts.proofs.AllLemmas.{AllByRecursion-at}
use Rattle.list_facts.proofs.BitLemmas.{xor_none, xor_nothing, xor_left, xor_swap}
use Rattle.circuit_sim.specs.Planes.{plane_bit}
use Rattle.circuit_sim.proofs.PlaneLemmas.{plane_bit-and, plane_bit-xor}
use Rattle.dependency_graph.specs.declared.node.Base.{Base}
use Rattle.dependency_graph.specs.declared.node.Base.TheVariants as bases
use Rattle.bit_sums.specs.Sums.{ProductView, SumView, product_value, xor_by}
use Rattle.bit_sums.proofs.SetLemmas.{value-append}
use Rattle.wide_sums.specs.declared.form.Form.{Form}
use Rattle.wide_sums.specs.declared.known.Known.{Known}
use Rattle.wide_sums.specs.inside.Forms.{AreProductsWord, IsBit, IsFormOf, IsFormSum, IsOnes, IsProductWord, IsReduced, IsSameForm, IsSumForm, IsWordOf, form_value}
use Rattle.wide_sums.proofs.FormLemmas.{plane_bit-zero, take_next}

-- ---- bits

pub bits_begun : (known : List Known) (form : Form) → form.bits.items ≡ [] → form.word ≡ 0 → IsFormOf known [] form
bits_begun known form none zero = record {
  values = λ bit row all.
      ap₂ xor (ap (xor_by bit) none) (ap (plane_bit row) zero ∙ plane_bit-zero row) ∙ xor_nothing false;
}

pub bit_alone : (known : List Known) (base : Base) (form : Form) → IsBit base form → IsFormOf known (base ∷ []) form
bit_alone known base form is = record {
  values = λ bit row all.
      ap₂ xor (ap (xor_by bit) is.bits) (ap (plane_bit row) is.word ∙ plane_bit-zero row) ∙ xor_nothing (xor_by bit (base ∷ []));
}

pub same_form : (a b : Form) → IsSameForm a b → (bit : Base → Bool) (row : ℕ) → form_value bit row b ≡ form_value bit row a
same_form a b is bit row = ap₂ xor (ap (xor_by bit) is.bits) (ap (plane_bit row) is.word)

pub bit_known : (known : List Known) (i : ℕ) (one : Known) (node : ℕ) (form : Form) → slice_get known i ≡ Some one → one.node ≡ node
    → IsSameForm one.form form → IsFormOf known (bases.Node node ∷ []) form
bit_known known i one node form e at same = record {
  values = λ bit row all.
      let P = λ (k : Known). bit (bases.Node k.node) ≡ form_value bit row k.form in
      let here : bit (bases.Node one.node) ≡ form_value bit row one.form =
      subst P (get_or_from_slice_get known i one one e) (AllByRecursion-at P known i one all (slice_get_within known i one e)) in
      same_form one.form form same bit row
      ∙ sym here
      ∙ ap (λ (k : ℕ). bit (bases.Node k)) at
      ∙ sym (xor_nothing (bit (bases.Node node)));
}

pub bits_next : (known : List Known) (bits : List Base) (i : ℕ) (base : Base) (so_far next sum : Form) → slice_get bits i ≡ Some base
    → IsFormOf known (take i bits) so_far → IsFormOf known (base ∷ []) next → IsFormSum so_far next sum → IsFormOf known (take (i + 1) bits) sum
bits_next known bits i base so_far next sum e before is both = rw (take_next bits i base e) (record {
  values = λ bit row all.
      both.values bit row ∙ ap₂ xor (before.values bit row all) (is.values bit row all) ∙ sym (value-append bit (take i bits) (base ∷ []));
})

pub bits_done : (known : List Known) (bits : List Base) (i : ℕ) (form : Form) → length bits ≤ i → IsFormOf known (take i bits) form → IsFormOf known bits form
bits_done known bits i form end is = subst (λ l. IsFormOf known l form) (take_all i bits end) is

-- ---- words

pub word_alone : (axes : List Form) (known : List Known) (bits : List Base) (form reduced : Form) (word : ℕ) → IsFormOf known bits form
    → IsReduced axes form reduced → reduced.bits.items ≡ [] → word ≡ reduced.word → IsWordOf axes known bits word
word_alone axes known bits form reduced word is less none at = record {
  values = λ bit row r.
      ap (plane_bit row) at
      ∙ sym (xor_none (plane_bit row reduced.word))
      ∙ ap (λ l. xor (xor_by bit l) (plane_bit row reduced.word)) (sym none)
      ∙ less.values bit row r.zero
      ∙ is.values bit row r.each;
}

pub product_word : (axes : List Form) (known : List Known) (product : ProductView) (first second : ℕ) → IsWordOf axes known product.first first
    → IsWordOf axes known product.second second → IsProductWord axes known product (bit_and first second)
product_word axes known product first second one two = record {
  values = λ bit row r. plane_bit-and row first second ∙ ap₂ ◌&&◌ (one.values bit row r) (two.values bit row r);
}

pub products_begun : (axes : List Form) (known : List Known) → AreProductsWord axes known [] 0
products_begun axes known = record { values = λ bit row r. plane_bit-zero row }

pub products_next : (axes : List Form) (known : List Known) (products : List ProductView) (i : ℕ) (product : ProductView) (so_far word : ℕ)
    → slice_get products i ≡ Some product → AreProductsWord axes known (take i products) so_far → IsProductWord axes known product word
    → AreProductsWord axes known (take (i + 1) products) (bit_xor so_far word)
products_next axes known products i product so_far word e before is = rw (take_next products i product e) (record {
  values = λ bit row r.
      plane_bit-xor row so_far word
      ∙ ap₂ xor (before.values bit row r) (is.values bit row r ∙ sym (xor_nothing (product_value bit product)))
      ∙ sym (value-append (product_value bit) (take i products) (product ∷ []));
})

pub products_done : (axes : List Form) (known : List Known) (products : List ProductView) (i word : ℕ) → length products ≤ i
    → AreProductsWord axes known (take i products) word → AreProductsWord axes known products word
products_done axes known products i word end is = subst (λ l. AreProductsWord axes known l word) (take_all i products end) is

-- ---- sums

three_parts : (b p o w : Bool) → xor b (xor (xor w p) o) ≡ xor o (xor (xor b w) p)
three_parts b p o w = ap (xor b) (xor_swap (xor w p) o) ∙ xor_left b o (xor w p) ∙ ap (λ v. xor v (xor w p)) (xor_swap b o)
    ∙ sym (xor_left o b (xor w p)) ∙ ap (xor o) (xor_left b w p)

pub sum_form : (axes : List Form) (known : List Known) (s : SumView) (form whole : Form) (word ones : ℕ) → AreProductsWord axes known s.products word
    → IsFormOf known s.bits form → IsOnes s.one ones → whole.bits.items ≡ form.bits.items → whole.word ≡ bit_xor (bit_xor form.word word) ones
    → IsSumForm axes known s whole
sum_form axes known s form whole word ones products bits one same at = record {
  values = λ bit row r.
      ap₂ xor (ap (xor_by bit) same)
      (ap (plane_bit row) at ∙ plane_bit-xor row (bit_xor form.word word) ones
      ∙ ap₂ xor (plane_bit-xor row form.word word ∙ ap (xor (plane_bit row form.word)) (products.values bit row r)) (one.each row r.few))
      ∙ three_parts (xor_by bit form.bits.items) (xor_by (product_value bit) s.products) s.one (plane_bit row form.word)
      ∙ ap (λ v. xor s.one (xor v (xor_by (product_value bit) s.products))) (bits.values bit row r.each);
}

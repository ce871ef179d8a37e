-- Windows: nodes that are opened one after another, and sums that vanish.
use Rattle.std.proofs.Common.{◌≡◌, ℕ, false, List, [], ◌∷◌, ◌++◌, slice_get, Some}
use Rattle.std.proofs.Common.{sym, ap, ap₂, ◌∙◌}
use Rattle.std.specs.Bool.{xor}
use Rattle.list_facts.proofs.AllLemmas.{AllByRecursion-push}
use Rattle.list_facts.proofs.BitLemmas.{xor_nothing}
use Rattle.circuit_sim.specs.Planes.{plane_bit}
use Rattle.dependency_graph.specs.declared.node.Base.TheVariants as bases
use Rattle.bit_sums.specs.Sums.{SumView, xor_by}
use Rattle.wide_sums.specs.declared.form.Form.{Form}
use Rattle.wide_sums.specs.declared.known.Known.{Known}
use Rattle.wide_sums.specs.inside.Forms.{AreOpened, IsReduced, IsSumForm, VanishesOver, form_value}
use Rattle.wide_sums.proofs.FormLemmas.{plane_bit-zero}

pub opened_begun : (definitions : List SumView) (axes : List Form) → AreOpened definitions axes []
opened_begun definitions axes = record { each = λ bit row few holds zero. tt }

pub opened_next : (definitions : List SumView) (axes : List Form) (known : List Known) (node : ℕ) (s : SumView) (one : Known)
    → slice_get definitions node ≡ Some s → one.node ≡ node → IsSumForm axes known s one.form → AreOpened definitions axes known
    → AreOpened definitions axes (known ++ one ∷ [])
opened_next definitions axes known node s one e at is before = record {
  each = λ bit row few holds zero.
      let all = before.each bit row few holds zero in
      AllByRecursion-push (λ (k : Known). bit (bases.Node k.node) ≡ form_value bit row k.form) known one all
      (ap (λ (k : ℕ). bit (bases.Node k)) at ∙ holds.each node s e ∙ sym (is.values bit row (record { few = few; zero = zero; each = all })));
}

pub vanishes_over : (definitions : List SumView) (axes : List Form) (known : List Known) (s : SumView) (form reduced : Form)
    → AreOpened definitions axes known → IsSumForm axes known s form → IsReduced axes form reduced → reduced.bits.items ≡ [] → reduced.word ≡ 0
    → VanishesOver definitions axes s
vanishes_over definitions axes known s form reduced opened is less none zero = record {
  values = λ bit row few holds at.
      sym (is.values bit row (record { few = few; zero = at; each = opened.each bit row few holds at }))
      ∙ sym (less.values bit row at)
      ∙ ap₂ xor (ap (xor_by bit) none) (ap (plane_bit row) zero ∙ plane_bit-zero row)
      ∙ xor_nothing false;
}

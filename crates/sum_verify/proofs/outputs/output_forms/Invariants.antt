use Rattle.circuit_verify.specs.Compared.{comparison}
use Rattle.sum_verify.specs.inside.Forms.{AreFormsOf}
use Rattle.sum_verify.proofs.NodeLemmas.{first_outputs}
use Rattle.sum_verify.proofs.outputs.output_forms.Given as goal

abbrev pub invariant-loop-sig : goal.invariant-loop-sig
invariant-loop-sig l = AreFormsOf (comparison l.compared) l.products l.sig-index l.outputs.items (first_outputs l.compared l.sig-index)

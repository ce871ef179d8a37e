use Rattle.circuit_verify.specs.Compared.{comparison}
use Rattle.sum_verify.specs.inside.Forms.{AreStartForms}
use Rattle.sum_verify.proofs.start.start_forms.Given as goal

abbrev pub invariant-loop-line : goal.invariant-loop-line
invariant-loop-line l = AreStartForms (comparison l.compared) l.line l.lines.items

use Rattle.std.proofs.Common.{◌∙◌, sym}
use Rattle.std.proofs.lemmas.Result.{IfOk-weaker}
use Rattle.linear_forms.proofs.BasisLemmas.{left_out, taken_in}
use Rattle.linear_forms.proofs.basis.with_member.Goals as goal

pub returns-then-has : goal.returns-then-has
returns-then-has c =
    IfOk-weaker c.plus.result _ _ (λ now is. taken_in c.args.sum c.args.member.now now c.args.set c.args.place (sym c.if-has.true ∙ c.has.ensures) is)
    c.plus.ensures

pub returns-else-has : goal.returns-else-has
returns-else-has c = left_out c.args.sum c.args.member.now c.args.set c.args.place (sym c.if-has.false ∙ c.has.ensures)

use Rattle.std.proofs.Common.{sym, ◌∙◌}
use Rattle.std.proofs.lemmas.Bool.{true≢false}
use Rattle.product_sums.proofs.RecordLemmas.{beq_same, same_form}
use Rattle.product_sums.proofs.find.is_same.Goals as goal

pub returns-then-one : goal.returns-then-one
returns-then-one c =
    λ alike.
    same_form c.args.one.now c.args.other.now (sym c.one.ensures ∙ beq_same c.one.result c.one-2.result c.if-one.true ∙ c.one-2.ensures)
    (c.is_alike.ensures alike)

pub returns-else-one : goal.returns-else-one
returns-else-one c = λ same. absurd (true≢false (sym same ∙ c.if-one.false))

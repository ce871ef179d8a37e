use Rattle.std.proofs.lemmas.Result.{IfOk-weaker}
use Rattle.product_sums.proofs.RecordLemmas.{not_taken, taken_once}
use Rattle.product_sums.proofs.find.scaled.Goals as goal

pub returns-then-one : goal.returns-then-one
returns-then-one c = IfOk-weaker c.copy.result _ _ (λ f same. taken_once f c.args.form.now c.args.one same c.if-one.true) c.copy.ensures

pub returns-else-one : goal.returns-else-one
returns-else-one c = not_taken c.constant.result c.args.form.now c.args.one c.constant.ensures c.if-one.false

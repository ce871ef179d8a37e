use Rattle.std.proofs.Common.{IfSome, Option, subst}
use Rattle.bit_sums.specs.Sums.{SumView}
use Rattle.few_products.specs.inside.Writing.{IsNamed, IsWrittenSum}
use Rattle.few_products.proofs.WritingLemmas.{output_written}
use Rattle.few_products.proofs.placing.Written.output.Goals as goal

pub returns : goal.returns
returns c =
    let P = IsNamed c.args.definitions.now c.args.node in
    let named = subst (λ (found : Option SumView). IfSome found P) c.in-Some.is c.in_ok-named.ensures in
    let Q = IsWrittenSum c.in-Some.named c.args.self.now c.sum_at.new.self in
    let written = subst (λ (found : Option SumView). IfSome found Q) c.in-Some-2.is c.in_ok-sum.ensures in
    (written.0, output_written _ _ _ _ _ _ _ _ _ named written.1 c.in_ok-finish.ensures)

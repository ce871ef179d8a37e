use Rattle.std.proofs.Common.{ap, arith, length}
use Rattle.std.proofs.lemmas.Result.{IfOk-weaker}
use Rattle.single_products.proofs.parting.part_output.Goals as goal

pub returns : goal.returns
returns c =
    IfOk-weaker c.finish.result _ _
    (λ whole finished. record {
      sum = c.in_ok-grown.grown;
      rebuilt = c.in_ok-grown.ensures.rebuilt;
      none = c.in_ok-grown.ensures.none (omega (arith, ap length c.products-none.ensures));
      finished = finished;
    })
    c.finish.ensures

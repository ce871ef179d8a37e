use Rattle.std.proofs.Common.{IfSome, Option, arith, subst}
use Rattle.bit_sums.specs.Sums.{SumView}
use Rattle.few_products.specs.inside.Writing.{IsWrittenSum}
use Rattle.few_products.proofs.PlacingLemmas.{placed}
use Rattle.few_products.proofs.placing.Written.write_node.Goals as goal

pub returns : goal.returns
returns c =
    let P = IsWrittenSum c.args.sum.now c.args.self.now c.sum_at.new.self in
    let written = subst (λ (found : Option SumView). IfSome found P) c.in-Some.is c.in_ok-whole.ensures in (
      record { inputs = written.0.inputs; places = written.0.places },
      placed _ _ _ _ _ _ _ _ _ written.1 c.in_ok-whole-2.ensures (omega (arith, c.if-len-ge-MOST_WRITES.false, c.len.ensures.len))
          (rw c.without_one.ensures at c.in_ok-node.ensures) c.one-negated.ensures,
    )

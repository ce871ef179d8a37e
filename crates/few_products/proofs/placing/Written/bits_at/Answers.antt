use Rattle.std.proofs.Common.{IfSome, Option, subst}
use Rattle.std.proofs.lemmas.Option.{slice_get-get_or}
use Rattle.bit_sums.specs.Sums.{SumView}
use Rattle.sum_graph.specs.Graphs.{bit_sum}
use Rattle.few_products.specs.inside.Writing.{StandsFor}
use Rattle.few_products.proofs.PlacingLemmas.{bits_begun, bits_done, bits_more}
use Rattle.few_products.proofs.placing.Written.bits_at.Goals as goal

pub loop-base-init : goal.loop-base-init
loop-base-init c = bits_begun _ _ _ _ c.constant-sum.ensures

pub loop-base-preserved : goal.loop-base-preserved
loop-base-preserved c =
    let P = StandsFor c.args.self.now.inputs c.args.self.now.places.items (bit_sum _) in
    let part = subst (λ (found : Option SumView). IfSome found P) c.in-Some.is c.in_ok-bit.ensures in
    bits_more _ _ _ _ c.loop-base.base-index _ _ _ _ (slice_get-get_or c.args.bits.now c.loop-base.base-index _ c.loop-base-test.true)
    c.loop-base.invariant part c.in_ok-sum.ensures

pub returns : goal.returns
returns c = bits_done _ _ _ _ c.loop-base.base-index _ c.loop-base-test.false c.loop-base.invariant

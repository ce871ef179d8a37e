use Rattle.std.proofs.Common.{◌≡◌, ◌+◌, ◌∙◌, IfSome, Option, arith, refl, subst}
use Rattle.bit_sums.specs.Sums.{SumView}
use Rattle.few_products.specs.inside.Writing.{IsWrittenOutput}
use Rattle.few_products.proofs.WritingLemmas.{next_output, no_outputs, whole}
use Rattle.few_products.proofs.writing.outputs_from.Goals as goal

pub loop-number-init : goal.loop-number-init
loop-number-init c = (refl, rw c.new-sums.ensures.items (no_outputs _ _ _ _ _ c.requires.written))

pub output-requires : goal.output-requires
output-requires c = c.loop-number.invariant.1.written.standing

pub loop-number-preserved : goal.loop-number-preserved
loop-number-preserved c =
    let old = c.loop-number.written in
    let new = c.output.new.self in
    let P = IsWrittenOutput c.args.definitions.now c.saturating_add-node.result old new in
    let sum = subst (λ (found : Option SumView). IfSome found P) c.in-Some.is c.in_ok-sum.ensures in
    let at : c.saturating_add-node.result ≡ c.args.first + c.loop-number.number =
    omega (arith, c.saturating_add-node.ensures, c.requires.few, c.loop-number-test.true) in (
      sum.0.inputs ∙ c.loop-number.invariant.0,
      rw c.in_ok-push.ensures.items (next_output _ _ c.loop-number.number _ old new _ _ at c.loop-number.invariant.1 sum),
    )

pub returns : goal.returns
returns c =
    whole _ _ _ _ _ c.loop-number.number _ _ _ _ c.loop-number.invariant.0
    (omega (arith, c.loop-number-test.false, c.loop-number.auto.number-end)) c.in_ok-nodes.ensures c.loop-number.invariant.1

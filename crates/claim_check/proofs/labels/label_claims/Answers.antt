use Rattle.claim_check.proofs.LabelLemmas.{claim_labeled}
use Rattle.claim_check.proofs.labels.label_claims.Goals as goal

pub loop-number-preserved : goal.loop-number-preserved
loop-number-preserved c =
    claim_labeled c.args.tape.now c.inputs.ensures.tape c.inputs.result c.inputs.ensures.inputs c.claims-claim-items.result.now
    c.claims-claim-items.ensures.claims c.loop-number.number _ c.loop-number-test.true c.loop-number.labels c.lower.new.labels
    c.loop-number.invariant.0 c.loop-number.invariant.1 c.lower.ensures

use Rattle.std.proofs.Common.{◌+◌, ap, ◌∙◌, drop}
use Rattle.std.specs.Bool.{xor}
use Rattle.list_facts.proofs.BitLemmas.{not-beq, xor_none}
use Rattle.linear_forms.specs.Sums.{xor_by}
use Rattle.linear_forms.specs.Pairs.{alone_in}
use Rattle.linear_forms.specs.inside.Exchanged.{both_ones, no_pair}
use Rattle.linear_forms.proofs.CodeLemmas.{begun, ended, one_ended, one_on, step_on}
use Rattle.linear_forms.proofs.pairs.alone.Goals as goal

pub loop-pair-init : goal.loop-pair-init
loop-pair-init c = (begun alone_in c.args.pairs.now, xor_none (xor_by both_ones c.args.pairs.now))

pub loop-pair-preserved : goal.loop-pair-preserved
loop-pair-preserved c =
    let ps = c.args.pairs.now in
    let at = c.loop-pair.pair-index in (
      step_on alone_in ps at no_pair c.loop-pair.set _ _ c.loop-pair-test.true c.loop-pair.invariant.0 c.left_alone-set.ensures,
      ap (λ bit. xor bit (xor_by both_ones (drop (at + 1) ps))) (not-beq c.loop-pair.one c.are_ones-one.result)
          ∙ one_on both_ones ps at no_pair c.loop-pair.one c.are_ones-one.result _ c.loop-pair-test.true c.loop-pair.invariant.1 c.are_ones-one.ensures,
    )

pub returns-clause-set : goal.returns-clause-set
returns-clause-set c = ended alone_in c.args.pairs.now c.loop-pair.pair-index c.loop-pair.set _ c.loop-pair-test.false c.loop-pair.invariant.0

pub returns-clause-one : goal.returns-clause-one
returns-clause-one c = one_ended both_ones c.args.pairs.now c.loop-pair.pair-index c.loop-pair.one _ c.loop-pair-test.false c.loop-pair.invariant.1

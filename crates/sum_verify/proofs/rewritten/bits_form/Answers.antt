use Rattle.std.proofs.Common.{◌∙◌, refl}
use Rattle.std.proofs.lemmas.Option.{slice_get-get_or}
use Rattle.sum_verify.proofs.RewrittenLemmas.{bits_begun, bits_done, bits_next}
use Rattle.sum_verify.proofs.rewritten.bits_form.Goals as goal

pub loop-base-init : goal.loop-base-init
loop-base-init c = (refl, bits_begun _ _ _ _ _ c.constant-form.ensures)

pub loop-base-preserved : goal.loop-base-preserved
loop-base-preserved c = (
  c.sum.ensures.same ∙ c.loop-base.invariant.0,
  bits_next _ _ _ c.args.bits.now _ c.loop-base.base-index _ _ _ _ (slice_get-get_or c.args.bits.now c.loop-base.base-index _ c.loop-base-test.true)
      c.requires.lines c.requires.nodes c.requires.known c.loop-base.invariant.1 c.bit_form.ensures c.in_ok-form.ensures.sum,
)

pub returns-clause-form : goal.returns-clause-form
returns-clause-form c = bits_done _ _ _ _ _ c.loop-base.base-index _ c.loop-base-test.false c.loop-base.invariant.1

use Rattle.std.proofs.lemmas.Option.{slice_get-get_or}
use Rattle.wide_sums.proofs.KnownLemmas.{bits_begun, bits_done, bits_next}
use Rattle.wide_sums.proofs.known.form_of.Goals as goal

pub loop-base-init : goal.loop-base-init
loop-base-init c = bits_begun _ _ c.zero-form.ensures.bits c.zero-form.ensures.word

pub loop-base-preserved : goal.loop-base-preserved
loop-base-preserved c =
    bits_next _ _ c.loop-base.base-index _ _ _ _ (slice_get-get_or c.args.bits.now c.loop-base.base-index _ c.loop-base-test.true)
    c.loop-base.invariant c.in_ok-next.ensures c.in_ok-form.ensures

pub returns : goal.returns
returns c = bits_done _ _ c.loop-base.base-index _ c.loop-base-test.false c.loop-base.invariant

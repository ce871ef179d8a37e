use Rattle.std.proofs.Common.{slice_get, ap, sym, ◌∙◌}
use Rattle.std.proofs.lemmas.Option.{slice_get-get_or}
use Rattle.single_products.proofs.RenumberingLemmas.{bits_begun, bits_done, bits_step}
use Rattle.single_products.proofs.renumbering.renumbered_bits.Goals as goal

pub loop-base-init : goal.loop-base-init
loop-base-init c = rw (c.constant-whole.ensures, c.one.ensures) (bits_begun c.args.places.now c.args.sum.now.one)

pub loop-base-preserved : goal.loop-base-preserved
loop-base-preserved c =
    bits_step _ _ _ c.loop-base.base-index _ _ _ _ _ (ap (λ l. slice_get l c.loop-base.base-index) (sym c.bits-base-items.ensures)
    ∙ slice_get-get_or c.bits-base-items.result.now c.loop-base.base-index _ c.loop-base-test.true) c.renumbered.ensures c.in_ok-bit.ensures
    c.in_ok-whole.ensures c.loop-base.invariant

pub returns : goal.returns
returns c = bits_done _ c.args.sum.now _ c.loop-base.base-index _ c.bits-base-items.ensures c.loop-base-test.false c.loop-base.invariant

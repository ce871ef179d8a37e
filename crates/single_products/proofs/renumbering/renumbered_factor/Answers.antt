use Rattle.std.proofs.Common.{arith}
use Rattle.std.proofs.lemmas.Option.{slice_get-get_or}
use Rattle.single_products.proofs.RenumberingLemmas.{set_begun, set_done, set_factor, set_step}
use Rattle.single_products.proofs.renumbering.renumbered_factor.Goals as goal

pub loop-base-init : goal.loop-base-init
loop-base-init c = rw c.new-set.ensures.items (set_begun c.args.places.now)

pub loop-base-preserved : goal.loop-base-preserved
loop-base-preserved c =
    set_step _ _ _ _ _ c.loop-base.base-index _ _ (slice_get-get_or c.args.bits.now c.loop-base.base-index _ c.loop-base-test.true) c.renumbered.ensures
    c.deref.ensures.value c.in_ok-set.ensures c.loop-base.invariant

pub new-requires : goal.new-requires
new-requires c =
    let set = set_done _ _ _ _ c.loop-base-test.false c.loop-base.invariant in
    record { rises = set.rises; few = omega (arith, set.few, c.requires.few) }

pub returns : goal.returns
returns c = rw c.new.ensures (set_factor _ _ _ (set_done _ _ _ _ c.loop-base-test.false c.loop-base.invariant))

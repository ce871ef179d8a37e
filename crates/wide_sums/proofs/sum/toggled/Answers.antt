use Rattle.std.proofs.Common.{length, refl}
use Rattle.std.proofs.lemmas.Option.{slice_get_read}
use Rattle.wide_sums.proofs.ToggleLemmas.{toggled_begun, toggled_done, toggled_next}
use Rattle.wide_sums.proofs.sum.toggled.Goals as goal

pub loop-other-init : goal.loop-other-init
loop-other-init c = rw c.in_ok-all.ensures (toggled_begun _)

pub loop-other-preserved : goal.loop-other-preserved
loop-other-preserved c =
    let others = c.args.others.now in
    let e = slice_get_read others (length others) c.loop-other.other-index _ refl c.loop-other-test.true c.other-item.is in
    toggled_next _ c.loop-other.other-index _ _ _ _ e c.loop-other.invariant c.in_ok-toggle.ensures

pub returns : goal.returns
returns c = toggled_done _ c.loop-other.other-index _ _ c.loop-other-test.false c.loop-other.invariant

use Rattle.std.proofs.Common.{length, refl}
use Rattle.std.proofs.lemmas.Option.{slice_get_read}
use Rattle.wide_sums.proofs.FormLemmas.{reduced_begun, reduced_done, reduced_next}
use Rattle.wide_sums.proofs.form.Form.reduced.Goals as goal

pub loop-axis-init : goal.loop-axis-init
loop-axis-init c = reduced_begun _ _

pub loop-axis-preserved : goal.loop-axis-preserved
loop-axis-preserved c =
    let axes = c.args.axes.now in
    let e = slice_get_read axes (length axes) c.loop-axis.axis-index _ refl c.loop-axis-test.true c.axis-item.is in
    reduced_next _ c.loop-axis.axis-index _ _ _ _ e c.loop-axis.invariant c.in_ok-form.ensures

pub returns : goal.returns
returns c = reduced_done _ c.loop-axis.axis-index _ _ c.loop-axis-test.false c.loop-axis.invariant

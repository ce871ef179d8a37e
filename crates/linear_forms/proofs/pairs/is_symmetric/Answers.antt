use Rattle.linear_forms.proofs.CodeLemmas.{one_more_same}
use Rattle.linear_forms.proofs.pairs.is_symmetric.Goals as goal

pub loop-place-preserved : goal.loop-place-preserved
loop-place-preserved c =
    let e = c.if-exchanged-ne0.false in
    one_more_same c.args.pairs.now c.loop-place.place c.exchanged.result c.loop-place.invariant e c.exchanged.ensures

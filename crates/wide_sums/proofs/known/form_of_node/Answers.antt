use Rattle.std.proofs.Common.{length, refl}
use Rattle.std.proofs.lemmas.Result.{IfOk-weaker}
use Rattle.std.proofs.lemmas.Option.{slice_get_read}
use Rattle.wide_sums.proofs.KnownLemmas.{bit_alone, bit_known}
use Rattle.wide_sums.proofs.known.form_of_node.Goals as goal

pub returns-then-one-node : goal.returns-then-one-node
returns-then-one-node c =
    let known = c.args.known.now in
    let e = slice_get_read known (length known) c.loop-one.one-index _ refl c.loop-one-test.true c.one-item.is in
    IfOk-weaker c.copy.result _ _ (λ form same. bit_known _ c.loop-one.one-index _ _ form e c.if-one-node.true same) c.copy.ensures

pub returns : goal.returns
returns c = IfOk-weaker c.bit.result _ _ (λ form is. bit_alone _ _ form is) c.bit.ensures

use Rattle.std.proofs.Common.{◌<◌, ap, arith, length, refl}
use Rattle.std.proofs.lemmas.Option.{slice_get_read}
use Rattle.few_products.proofs.DefinitionLemmas.{added}
use Rattle.few_products.proofs.replay.add.Goals as goal

pub returns : goal.returns
returns c =
    let all = c.args.definitions.now.items in
    let low : c.args.target < length all = omega (arith, c.as_slice.ensures.len, ap length c.as_slice.ensures.value) in
    let e = slice_get_read all (length all) c.args.target _ refl low c.index.ensures in
    added _ c.args.target _ _ _ e c.requires c.in_ok-sum.ensures

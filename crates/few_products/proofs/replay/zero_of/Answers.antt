use Rattle.std.proofs.Common.{length, refl, sym}
use Rattle.std.proofs.lemmas.Bool.{ltb-true}
use Rattle.std.proofs.lemmas.Option.{slice_get_read}
use Rattle.few_products.proofs.DefinitionLemmas.{zero_of}
use Rattle.few_products.proofs.replay.zero_of.Goals as goal

pub returns : goal.returns
returns c =
    let definitions = c.args.definitions.now in
    let at = c.in-Some.ensures.lookup in
    let e = slice_get_read definitions (length definitions) _ _ refl (ltb-true _ _ (sym at.0)) at.1 in
    zero_of _ c.args.node _ _ _ e (rw (c.in_ok-bits.ensures.items, c.new.ensures.items) at c.new-bit.ensures) c.in_ok-plus.ensures

use Rattle.std.proofs.Common.{length, refl, sym}
use Rattle.std.proofs.lemmas.Bool.{ltb-true}
use Rattle.std.proofs.lemmas.Option.{slice_get_read}
use Rattle.few_products.proofs.WritingLemmas.{named_by_bit, named_by_sum}
use Rattle.few_products.proofs.writing.named.Goals as goal

pub returns-in-Some-Some : goal.returns-in-Some-Some
returns-in-Some-Some c = named_by_bit _ _ _ (rw (c.in_ok-bits.ensures.items, c.new.ensures.items) at c.new-in-Some-Some.ensures)

pub returns-in_ok-copy-in-Some : goal.returns-in_ok-copy-in-Some
returns-in_ok-copy-in-Some c =
    let definitions = c.args.definitions.now in
    let at = c.in-Some.ensures.lookup in
    let e = slice_get_read definitions (length definitions) _ _ refl (ltb-true _ _ (sym at.0)) at.1 in
    named_by_sum _ _ _ _ e c.in_ok-copy-in-Some.ensures

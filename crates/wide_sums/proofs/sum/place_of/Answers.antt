use Rattle.std.proofs.Common.{Some, ap, length, refl, sym, ◌∙◌}
use Rattle.std.proofs.lemmas.Option.{slice_get_read}
use Rattle.bit_sums.proofs.GrowingLemmas.{same_product}
use Rattle.wide_sums.proofs.sum.place_of.Goals as goal

pub returns-then-eq : goal.returns-then-eq
returns-then-eq c =
    let products = c.args.products.now in
    slice_get_read products (length products) c.loop-place.place _ refl c.loop-place-test.true c.index-products-place.is
    ∙ ap Some (same_product _ _ (sym c.if-eq.ensures))

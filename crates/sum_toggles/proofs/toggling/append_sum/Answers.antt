use Rattle.sum_toggles.proofs.StepLemmas.{all_bits_can, all_products_can}
use Rattle.sum_toggles.proofs.toggling.append_sum.Goals as goal

pub append_bits-requires : goal.append_bits-requires
append_bits-requires c =
    rw c.bits.ensures (all_bits_can c.args.first c.args.lines.now c.args.target c.args.sum.now c.requires.apart c.requires.placed)

pub append_products-requires : goal.append_products-requires
append_products-requires c =
    rw c.products.ensures (all_products_can c.args.first c.args.lines.now c.args.target c.args.sum.now c.requires.apart c.requires.placed)

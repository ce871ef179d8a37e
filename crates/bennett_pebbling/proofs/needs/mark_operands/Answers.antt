use Rattle.std.specs.List.{flat_map}
use Rattle.bit_sums.specs.Sums.{product_bases}
use Rattle.bennett_pebbling.proofs.NeedLemmas.{marked_two}
use Rattle.bennett_pebbling.proofs.needs.mark_operands.Goals as goal

pub returns : goal.returns
returns c =
    let bits = rw c.bits.ensures at c.mark_all.ensures in
    let products = rw c.products.ensures at c.mark_products.ensures in
    marked_two c.args.lo c.args.node.now.bits (flat_map product_bases c.args.node.now.products) c.args.marks.now c.mark_all.new.marks
    c.mark_products.new.marks bits products

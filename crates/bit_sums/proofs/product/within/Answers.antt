use Rattle.std.proofs.Common.{List, arith, subst}
use Rattle.dependency_graph.specs.declared.node.Base.{Base}
use Rattle.bit_sums.specs.inside.Joins.{HasFactors}
use Rattle.bit_sums.proofs.PartLemmas.{one_product, product_apart, some_items}
use Rattle.bit_sums.proofs.product.within.Goals as goal

pub in_order-requires : goal.in_order-requires
in_order-requires c =
    rw c.in_ok-lesser.ensures.items
    (product_apart c.args.lesser.now c.args.rest.items c.requires.lesser c.requires.rest c.requires.apart (some_items _ _ (omega arith) c.if-is_empty.ensures)
    (some_items _ _ (omega arith) c.if-is_empty-2.ensures))

pub returns : goal.returns
returns c =
    one_product c.args.lesser.now c.args.rest.items c.in_ok-bits.bits.items c.in_order.result c.in_ok-bits.ensures.items
    (subst (λ (l : List Base). HasFactors l c.args.rest.items c.in_order.result) c.in_ok-lesser.ensures.items c.in_order.ensures)

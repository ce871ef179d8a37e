use Rattle.std.proofs.Common.{false, subst, sym}
use Rattle.std.proofs.lemmas.Result.{IfOk-weaker}
use Rattle.single_products.specs.inside.Parting.{IsPart}
use Rattle.single_products.proofs.PartLemmas.{part_kept, part_node, part_short}
use Rattle.single_products.proofs.parting.part.Goals as goal

pub returns-then-kept : goal.returns-then-kept
returns-then-kept c = rw c.if-kept.true (part_kept _ _ _ _ c.in_ok-sum.ensures)

pub returns-in-Some : goal.returns-in-Some
returns-in-Some c =
    let factor = rw c.in-Some.is at c.in_ok-factor.ensures in
    let nodes = c.args.nodes.now.keys in
    let short = part_short _ _ nodes _ _ _ c.in_ok-sum.ensures c.in_ok-sum-2.ensures factor.1 in
    let P = IsPart false c.args.places.now c.args.product.now nodes nodes in
    rw c.if-kept.false (IfOk-weaker c.of.result _ _ (λ sum is. subst P (sym is) short) c.of.ensures.sum)

pub returns : goal.returns
returns c =
    let node = part_node _ _ _ _ _ _ _ c.in_ok-sum.ensures c.in_ok-sum-2.ensures c.in_ok-node.ensures in
    rw c.if-kept.false
    (IfOk-weaker c.bit.result _ _
    (λ sum is. subst (IsPart false c.args.places.now c.args.product.now c.args.nodes.now.keys c.node_of.new.nodes.keys) (sym is) node) c.bit.ensures)

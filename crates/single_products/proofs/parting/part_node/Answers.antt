use Rattle.std.proofs.Common.{arith}
use Rattle.std.proofs.lemmas.Result.{IfOk-weaker}
use Rattle.single_products.proofs.parting.part_node.Goals as goal

pub node_of-requires : goal.node_of-requires
node_of-requires c = omega (arith, c.requires.room, c.in_ok-grown.ensures.rebuilt.few)

pub returns : goal.returns
returns c =
    IfOk-weaker c.node_of.result _ _
    (λ place at. record {
      between = _;
      sum = c.in_ok-grown.grown;
      rebuilt = c.in_ok-grown.ensures.rebuilt;
      one = c.in_ok-grown.ensures.one;
      whole = c.in_ok-whole.whole;
      finished = c.in_ok-whole.ensures;
      at = at;
    })
    c.node_of.ensures

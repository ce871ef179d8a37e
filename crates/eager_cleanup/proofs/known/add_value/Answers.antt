use Rattle.eager_cleanup.proofs.KnownLemmas.{IsBefore, operands_earlier, values_more}
use Rattle.eager_cleanup.proofs.known.add_value.Goals as goal

pub node_value-requires : goal.node_value-requires
node_value-requires c =
    rw (c.deref.ensures.value, c.requires.count, c.requires.values.one_each)
    (operands_earlier c.args.graph.now c.args.k c.node-node.result c.requires.settled.nodes c.node-node.ensures)

pub drop_used-requires-clause-operands : goal.drop_used-requires-clause-operands
drop_used-requires-clause-operands c =
    operands_earlier c.args.graph.now c.args.k c.node-node.result c.requires.settled.nodes c.node-node.ensures

pub drop_used-requires-clause-values : goal.drop_used-requires-clause-values
drop_used-requires-clause-values c =
    let before : IsBefore c.args.graph.now c.args.inputs.now c.args.known.now.items c.args.k c.node-node.result = record {
      inside = c.requires.inside;
      nodes = c.requires.settled.nodes;
      is = c.node-node.ensures;
      inputs_are = c.requires.inputs;
      input_count = c.requires.count;
      known_are = c.requires.values;
    } in
    let value = rw c.deref.ensures.value at c.in_ok-value.ensures in
    rw (c.deref_mut.ensures.value, c.in_ok-push.ensures.items) (values_more _ _ _ _ _ _ before value)

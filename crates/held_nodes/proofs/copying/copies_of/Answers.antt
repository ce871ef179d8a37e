use Rattle.held_nodes.proofs.CopyLemmas.{copies_more, output_apart, output_can}
use Rattle.held_nodes.proofs.copying.copies_of.Goals as goal

pub append_sum-requires-clause-placed : goal.append_sum-requires-clause-placed
append_sum-requires-clause-placed c =
    let can = output_can c.args.inputs c.loop-k.k c.args.lines.now c.args.outputs.now c.index-outputs-k.result c.loop-k-test.true c.index-outputs-k.is
    c.requires.can in
    can.placed

pub append_sum-requires-clause-apart : goal.append_sum-requires-clause-apart
append_sum-requires-clause-apart c =
    output_apart c.args.inputs c.loop-k.k c.args.lines.now c.args.outputs.now c.index-outputs-k.result c.loop-k-test.true c.index-outputs-k.is c.requires.can

pub loop-k-preserved : goal.loop-k-preserved
loop-k-preserved c =
    copies_more _ _ c.args.inputs c.loop-k.k c.args.outputs.now c.index-outputs-k.result c.loop-k.copies.items c.append_sum.new.gates.items _
    c.loop-k-test.true c.index-outputs-k.is c.in_ok-append_sum.ensures c.loop-k.invariant

use Rattle.sum_verify.proofs.RewrittenLemmas.{input_low, node_low}
use Rattle.sum_verify.proofs.rewritten.bit_form.Goals as goal

pub bounds-lines-i : goal.bounds-lines-i
bounds-lines-i c = input_low _ _ c.args.base c.in-Input.i c.in-Input.is c.requires

pub bounds-nodes-k : goal.bounds-nodes-k
bounds-nodes-k c = node_low _ _ c.args.base c.in-Node.k c.in-Node.is c.requires

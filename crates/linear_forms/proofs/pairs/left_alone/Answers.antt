use Rattle.linear_forms.proofs.CodeLemmas.{left_over}
use Rattle.linear_forms.proofs.pairs.left_alone.Goals as goal

pub returns : goal.returns
returns c = left_over c.args.pair.now c.taken.result c.taken-2.result c.taken.ensures c.taken-2.ensures

use Rattle.sum_graph.proofs.PlainLemmas.{plain_graphs_are_alike}
use Rattle.sum_graph.proofs.law.plain_graphs_are_alike.Goals as goal

pub returns : goal.returns
returns c = plain_graphs_are_alike

use Rattle.dependency_graph.proofs.CutLemmas.{graphs_are_no_wider}
use Rattle.dependency_graph.proofs.law.graphs_are_no_wider.Goals as goal

pub returns : goal.returns
returns c = graphs_are_no_wider

-- The steps of a graph of sums are as many as its nodes.
use Rattle.std.proofs.Common.{◌≡◌, length}
use Rattle.std.proofs.lemmas.List.{length-map}
use Rattle.dependency_graph.proofs.TableLemmas.{nodes_in}
use Rattle.bit_sums.specs.Sums.{bases_of}
use Rattle.sum_graph.specs.Graphs.{SumGraphView}
use Rattle.sum_graph.specs.Uses.{sum_steps}

pub length-sum_steps : (g : SumGraphView) → length (sum_steps g) ≡ length g.nodes
length-sum_steps g = length-map g.nodes (nodes_in bases_of)

-- What the nodes of a graph of sums are made of, their last uses, and cuts.
use Rattle.std.specs.Prelude.{ℕ, List}
use Rattle.std.specs.List.{flat_map}
use Rattle.revs_tape.specs.Cuts.{cut_at}
use Rattle.dependency_graph.specs.Graphs.{nodes_among, steps_by}
use Rattle.dependency_graph.specs.Uses.{last_use, last_uses_by}
use Rattle.bit_sums.specs.Sums.{bases_of}
use Rattle.sum_graph.specs.Graphs.{SumGraphView}

-- the nodes as steps: each with the nodes that it is made of
abbrev pub sum_steps : SumGraphView → List (List ℕ)
sum_steps g = steps_by bases_of g.nodes

-- the nodes of which the outputs are made
abbrev pub sum_output_nodes : SumGraphView → List ℕ
sum_output_nodes g = nodes_among (flat_map bases_of g.outputs)

-- the last use of a node
abbrev pub sum_last_use : SumGraphView → ℕ → ℕ
sum_last_use g n = last_use (sum_steps g) (sum_output_nodes g) n

-- the last use of each node, in order
abbrev pub sum_last_uses : SumGraphView → List ℕ
sum_last_uses g = last_uses_by bases_of bases_of g.nodes g.outputs

-- the cut at j: the nodes below j that an output, node j or a later one is made of
abbrev pub sum_cut : SumGraphView → ℕ → List ℕ
sum_cut g j = cut_at (sum_steps g) (sum_output_nodes g) j

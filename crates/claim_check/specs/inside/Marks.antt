-- The marks of kept nodes, as they are set: place k of the list is that of node k.
use Rattle.std.specs.Prelude.{ℕ, ◌+◌, Bool, true, cond, List, [], ◌∷◌, slice_index_or, slice_set}
use Rattle.std.specs.List.{fold}
use Rattle.list_facts.specs.Bits.{bit_of}
use Rattle.dependency_graph.specs.declared.node.Base.{Base}
use Rattle.dependency_graph.specs.declared.node.Base.TheVariants as bases
use Rattle.dependency_graph.specs.declared.node.Node.{Node}
use Rattle.dependency_graph.specs.Graphs.{operands}

-- with a mark of this base, where the list has its place
abbrev pub with_mark : List Bool → Base → List Bool
with_mark marks (bases.Input i) = marks
with_mark marks (bases.Node k) = slice_set marks k true

abbrev pub with_marks : List Bool → List Base → List Bool
with_marks marks some = fold with_mark marks some

-- with marks of what a node is made of, where the node is marked
abbrev pub with_operands : List Bool → ℕ → Node → List Bool
with_operands marks k node = cond (bit_of marks k) (with_marks marks (operands node)) marks

-- with marks of what the nodes from the k-th on are made of, the last node first
abbrev pub with_nodes : List Bool → ℕ → List Node → List Bool
with_nodes marks k [] = marks
with_nodes marks k (node ∷ rest) = with_operands (with_nodes marks (k + 1) rest) k node

-- the number at a place of a table
abbrev pub number_in : List ℕ → ℕ → ℕ
number_in table k = slice_index_or table k 0

-- Levels of nodes by their ANDs.
use Rattle.std.specs.Prelude.{ℕ, ◌+◌, max, slice_index, List, [], ◌∷◌, ◌++◌}
use Rattle.dependency_graph.specs.declared.node.Base.{Base}
use Rattle.dependency_graph.specs.declared.node.Base.TheVariants as bases
use Rattle.dependency_graph.specs.declared.node.Node.{Node}
use Rattle.dependency_graph.specs.declared.node.Node.TheVariants.{Not, Xor, And}

-- the level of a base, with those of the nodes: that of an input is 0
abbrev pub base_level : List ℕ → Base → ℕ
base_level levels (bases.Input i) = 0
base_level levels (bases.Node j) = slice_index levels j

-- that of a node is the greatest of its operands', and of an AND one more
abbrev pub node_level : List ℕ → Node → ℕ
node_level levels (Not a) = base_level levels a
node_level levels (Xor a b) = max (base_level levels a) (base_level levels b)
node_level levels (And a b) = max (base_level levels a) (base_level levels b) + 1

-- the levels so far, and then those of these nodes
abbrev pub levels_made : List ℕ → List Node → List ℕ
levels_made levels [] = levels
levels_made levels (node ∷ rest) = levels_made (levels ++ node_level levels node ∷ []) rest

-- the greatest of some numbers, or 0
abbrev pub greatest_of : List ℕ → ℕ
greatest_of [] = 0
greatest_of (x ∷ xs) = max x (greatest_of xs)

-- the AND depth of some nodes: the greatest level
abbrev pub and_depth : List Node → ℕ
and_depth nodes = greatest_of (levels_made [] nodes)

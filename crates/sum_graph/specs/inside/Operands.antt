-- What a node keeps of its operands.
use Rattle.std.specs.Prelude.{◌≢◌, ⊤}
use Rattle.dependency_graph.specs.declared.node.Node.{Node}
use Rattle.dependency_graph.specs.declared.node.Node.TheVariants.{Not, Xor, And}

-- two operands are different
abbrev pub AreTwo : Node → Type 0
AreTwo (Not a) = ⊤
AreTwo (Xor a b) = a ≢ b
AreTwo (And a b) = a ≢ b

-- The kept nodes of a graph: those on which an output rests, renumbered in their order.
use Rattle.std.specs.Prelude.{◌≡◌, ◌↔◌, ℕ, ◌+◌, ◌<◌, Bool, true, cond, List, [], ◌∷◌, length, map}
use Rattle.std.specs.Prelude.{filter, slice_index_or}
use Rattle.list_facts.specs.Lists.{IsAmong, below}
use Rattle.dependency_graph.specs.declared.node.Base.{Base}
use Rattle.dependency_graph.specs.declared.node.Base.TheVariants as bases
use Rattle.dependency_graph.specs.declared.node.Node.{Node}
use Rattle.dependency_graph.specs.declared.node.Node.TheVariants.{Not, Xor, And}
use Rattle.dependency_graph.specs.declared.node.Sig.{Sig}
use Rattle.dependency_graph.specs.declared.node.Sig.TheVariants.{Const, Is}
use Rattle.dependency_graph.specs.Graphs.{GraphView, output_nodes, steps_of}
use Rattle.claim_check.specs.Settled.{SettledView}

-- an output rests on a node that is an output, and on the operands of a node on which one rests
pub data IsKept (g : GraphView) : ℕ → Type 0 where
  as_output : (k : ℕ) → IsAmong k (output_nodes g) → IsKept g k
  as_operand : (k reader : ℕ) → IsKept g reader
      → IsAmong k (slice_index_or (steps_of g) reader []) → IsKept g k

-- ---- renumbering

-- the number of kept nodes below node k, which is the new number of a kept node
abbrev pub rank : (ℕ → Bool) → ℕ → ℕ
rank kept k = length (filter kept (below k))

abbrev pub renumbered_base : (ℕ → ℕ) → Base → Base
renumbered_base numbers (bases.Input i) = bases.Input i
renumbered_base numbers (bases.Node k) = bases.Node (numbers k)

abbrev pub renumbered : (ℕ → ℕ) → Node → Node
renumbered numbers (Not a) = Not (renumbered_base numbers a)
renumbered numbers (Xor a b) = Xor (renumbered_base numbers a) (renumbered_base numbers b)
renumbered numbers (And a b) = And (renumbered_base numbers a) (renumbered_base numbers b)

abbrev pub renumbered_sig : (ℕ → ℕ) → Sig → Sig
renumbered_sig numbers (Const bit) = Const bit
renumbered_sig numbers (Is base) = Is (renumbered_base numbers base)

-- the kept ones of the nodes from the k-th on, renumbered
abbrev pub kept_nodes : (ℕ → Bool) → (ℕ → ℕ) → ℕ → List Node → List Node
kept_nodes kept numbers k [] = []
kept_nodes kept numbers k (node ∷ rest) =
    let later = kept_nodes kept numbers (k + 1) rest in
    cond (kept k) (renumbered numbers node ∷ later) later

-- the kept nodes of a graph alone, each with its rank as its number
abbrev pub kept_part : GraphView → (ℕ → Bool) → SettledView
kept_part g kept = record {
  inputs = g.inputs;
  nodes = kept_nodes kept (rank kept) 0 g.nodes;
  outputs = map (renumbered_sig (rank kept)) g.outputs;
}

-- A settled graph is that of exactly the kept nodes of a graph.
pub record IsKeptPart (g : GraphView) (s : SettledView) : Type 0 where
  pub kept : ℕ → Bool
  pub exactly : (k : ℕ) → k < length g.nodes → (kept k ≡ true) ↔ IsKept g k
  pub is : s ≡ kept_part g kept

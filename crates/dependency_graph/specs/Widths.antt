-- How wide a graph is beside its tape.
use Rattle.std.specs.Prelude.{ℕ, ◌≤◌, length}
use Rattle.revs_tape.specs.Cuts.{IsWidth}
use Rattle.revs_tape.specs.Measures.{HasWidth}
use Rattle.revs_tape.specs.Tapes.{TapeView}
use Rattle.dependency_graph.specs.Folds.{graph_of}
use Rattle.dependency_graph.specs.Graphs.{GraphView, output_nodes, steps_of}
use Rattle.dependency_graph.specs.Uses.{cut_in}

-- The width of a graph: the most nodes that are needed at one place.
abbrev pub HasNodeWidth : GraphView → ℕ → Type 0
HasNodeWidth g width = IsWidth (steps_of g) (output_nodes g) width

-- No cut of the graph has more members, and so its width is no more.
pub record IsNoWider (g : GraphView) (most : ℕ) : Type 0 where
  pub cuts : (j : ℕ) → j ≤ length g.nodes → length (cut_in g j) ≤ most
  pub width : (own : ℕ) → HasNodeWidth g own → own ≤ most

-- The law: the graph of a tape is no wider than the tape.
abbrev pub GraphsAreNoWider : Type 0
GraphsAreNoWider =
    (t : TapeView) (width : ℕ) → HasWidth t width → IsNoWider (graph_of t) width

-- Last uses in a list of steps. A step is the list of its operands, as in the cuts of a tape.
use Rattle.std.specs.Prelude.{◌↔◌, ℕ, ◌<◌, ◌≤◌, cond, List}
use Rattle.std.specs.Prelude.{[], ◌∷◌, length, map, filter, slice_index_or, slice_set}
use Rattle.std.specs.List.{flat_map}
use Rattle.list_facts.specs.Lists.{IsAmong, below}
use Rattle.revs_tape.specs.Cuts.{is_in, cut_at}
use Rattle.dependency_graph.specs.declared.node.Base.{Base}
use Rattle.dependency_graph.specs.declared.node.Base.TheVariants as bases
use Rattle.dependency_graph.specs.Graphs.{GraphView, nodes_among, output_nodes, steps_by, steps_of}

-- the last number of a list; the given one where there is none
abbrev pub last_of : ℕ → List ℕ → ℕ
last_of none [] = none
last_of none (x ∷ xs) = last_of x xs

-- the steps that have step i as an operand, rising
abbrev pub readers : List (List ℕ) → ℕ → List ℕ
readers steps i = filter (λ (k : ℕ). is_in (slice_index_or steps k []) i) (below (length steps))

-- The last use of step i: behind all steps where it is an output, else at the last step that has it
-- as an operand, else at itself.
abbrev pub last_use : List (List ℕ) → List ℕ → ℕ → ℕ
last_use steps outputs i = cond (is_in outputs i) (length steps) (last_of i (readers steps i))

-- The law: a step below j is in the cut at j exactly where its last use is at or above j.
abbrev pub LastUsesTellCuts : Type 0
LastUsesTellCuts = (steps : List (List ℕ)) (outputs : List ℕ) (i j : ℕ)
    → i < j → j ≤ length steps
    → IsAmong i (cut_at steps outputs j) ↔ (j ≤ last_use steps outputs i)

-- ---- of nodes that are made of bases

-- the last use of each of these nodes, in order, where these are the outputs
abbrev pub last_uses_by : {A B : Type 0} → (A → List Base) → (B → List Base) → List A → List B
    → List ℕ
last_uses_by parts ends nodes outputs =
    map (last_use (steps_by parts nodes) (nodes_among (flat_map ends outputs)))
    (below (length nodes))

-- a table of last uses with that of this base, where the table has its place
abbrev pub with_use : List ℕ → Base → ℕ → List ℕ
with_use table (bases.Input i) place = table
with_use table (bases.Node k) place = slice_set table k place

abbrev pub with_uses : List ℕ → List Base → ℕ → List ℕ
with_uses table [] place = table
with_uses table (base ∷ rest) place = with_uses (with_use table base place) rest place

-- ---- of a graph

-- the last use of a node
abbrev pub last_use_in : GraphView → ℕ → ℕ
last_use_in g n = last_use (steps_of g) (output_nodes g) n

-- the last use of each node, in order
abbrev pub last_uses_of : GraphView → List ℕ
last_uses_of g = map (last_use_in g) (below (length g.nodes))

-- the cut at j: the nodes below j that are an output, or an operand of node j or of a later one
abbrev pub cut_in : GraphView → ℕ → List ℕ
cut_in g j = cut_at (steps_of g) (output_nodes g) j

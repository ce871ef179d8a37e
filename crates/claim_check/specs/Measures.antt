-- What is measured of a tape and of a settled graph, and that a settled graph is within the
-- measures of its tape.
use Rattle.std.specs.Prelude.{◌≡◌, ℕ, ◌<◌, ◌≤◌, Bool, List, length, map, slice_index}
use Rattle.std.specs.List.{AllByRecursion}
use Rattle.list_facts.specs.Lists.{AreDifferent}
use Rattle.revs_tape.specs.declared.tape.Ref.TheVariants as refs
use Rattle.revs_tape.specs.Levels.{IsLevels}
use Rattle.revs_tape.specs.Measures.{HasWidth, ands_of, inputs_of, outputs_of, writes_of}
use Rattle.revs_tape.specs.Monomials.{AreMonomialsOf}
use Rattle.revs_tape.specs.Tapes.{TapeView, bit_on}
use Rattle.dependency_graph.specs.declared.node.Base.TheVariants as bases
use Rattle.dependency_graph.specs.declared.node.Sig.TheVariants.{Is}
use Rattle.dependency_graph.specs.Graphs.{GraphView, ands_in}
use Rattle.dependency_graph.specs.Uses.{cut_in}
use Rattle.dependency_graph.specs.Widths.{HasNodeWidth, IsNoWider}
use Rattle.claim_check.specs.Budgets.{Measures, plain_lines, plain_gates, fine_lines, fine_gates}
use Rattle.claim_check.specs.Budgets.{block_lines, block_gates, eager_lines, eager_gates}
use Rattle.claim_check.specs.Kept.{IsKeptPart}
use Rattle.claim_check.specs.Settled.{SettledView, IsSettled, IsSettledOf, as_graph, settled_value}

-- ---- a settled graph beside its tape

-- Different nodes have the values of different writes, on every input.
pub record HaveOwnWrites (t : TapeView) (s : SettledView) : Type 0 where
  pub writes : List ℕ
  pub one_each : length writes ≡ length s.nodes
  pub different : AreDifferent writes
  pub known : AllByRecursion (λ write. write < writes_of t) writes
  pub same : (k : ℕ) → k < length s.nodes → (input : List Bool)
      → settled_value s input (Is (bases.Node k))
      ≡ bit_on t input (refs.Write (slice_index writes k))

-- No cut of a settled graph has more nodes than the width of the tape, each node stands for a write
-- of its own, and it has no more ANDs than the tape.
pub record IsNoLarger (t : TapeView) (s : SettledView) : Type 0 where
  pub cuts : (width : ℕ) → HasWidth t width → IsNoWider (as_graph s) width
  pub writes : HaveOwnWrites t s
  pub ands : ands_in s.nodes ≤ ands_of t

-- The settled graph is exactly the part of the tape's graph on which an output rests.
pub record IsSettledPart (t : TapeView) (g : GraphView) (s : SettledView) : Type 0 where
  pub part : IsKeptPart g s
  pub settled : IsSettled s
  pub of_tape : IsSettledOf t s
  pub no_larger : IsNoLarger t s

-- ---- measures

-- a function of n inputs has so many monomials
pub record HasMonomials (n : ℕ) (function : List Bool → Bool) (count : ℕ) : Type 0 where
  pub monomials : List (List ℕ)
  pub are : AreMonomialsOf n function monomials
  pub counted : length monomials ≡ count

-- functions of n inputs, one for each number, have so many monomials
abbrev pub HaveMonomials : ℕ → (ℕ → List Bool → Bool) → List ℕ → Type 0
HaveMonomials n functions counts =
    (k : ℕ) → k < length counts → HasMonomials n (functions k) (slice_index counts k)

-- write j as a function of the inputs
abbrev pub write_function : TapeView → ℕ → List Bool → Bool
write_function t j input = bit_on t input (refs.Write j)

-- node k as a function of the inputs
abbrev pub node_function : SettledView → ℕ → List Bool → Bool
node_function s k input = settled_value s input (Is (bases.Node k))

pub record AreMeasuresOf (t : TapeView) (m : Measures) : Type 0 where
  pub inputs : m.inputs ≡ inputs_of t
  pub outputs : m.outputs ≡ outputs_of t
  pub steps : m.steps ≡ writes_of t
  pub width : HasWidth t m.width
  pub one_each : length m.monomials ≡ writes_of t
  pub monomials : HaveMonomials (inputs_of t) (write_function t) m.monomials

-- some measures are those of the tape
pub record HasMeasures (t : TapeView) : Type 0 where
  pub measures : Measures
  pub are : AreMeasuresOf t measures

pub record AreMeasuresOfSettled (s : SettledView) (m : Measures) : Type 0 where
  pub inputs : m.inputs ≡ s.inputs
  pub outputs : m.outputs ≡ length s.outputs
  pub steps : m.steps ≡ length s.nodes
  pub width : HasNodeWidth (as_graph s) m.width
  pub one_each : length m.monomials ≡ length s.nodes
  pub monomials : HaveMonomials s.inputs (node_function s) m.monomials

-- some measures are those of the settled graph
pub record HasMeasuresOfSettled (s : SettledView) : Type 0 where
  pub measures : Measures
  pub are : AreMeasuresOfSettled s measures

-- ---- within measures

-- these numbers stand at different places of a list
pub record AreSelected (some all : List ℕ) : Type 0 where
  pub places : List ℕ
  pub different : AreDifferent places
  pub inside : AllByRecursion (λ place. place < length all) places
  pub are : some ≡ map (λ place. slice_index all place) places

-- A settled graph is within measures: it has these inputs and outputs, no more nodes, no longer
-- cuts, and the numbers of its nodes' monomials are among those of the steps.
pub record IsWithin (s : SettledView) (m : Measures) : Type 0 where
  pub inputs : s.inputs ≡ m.inputs
  pub outputs : length s.outputs ≡ m.outputs
  pub steps : length s.nodes ≤ m.steps
  pub cuts : (j : ℕ) → j ≤ length s.nodes → length (cut_in (as_graph s) j) ≤ m.width
  pub counts : List ℕ
  pub one_each : length counts ≡ length s.nodes
  pub monomials : HaveMonomials s.inputs (node_function s) counts
  pub selected : AreSelected counts m.monomials

-- ---- the laws

-- The law: each tape has measures.
abbrev pub TapesHaveMeasures : Type 0
TapesHaveMeasures = (t : TapeView) → HasMeasures t

-- The law: each settled graph has measures.
abbrev pub SettledGraphsHaveMeasures : Type 0
SettledGraphsHaveMeasures = (s : SettledView) → HasMeasuresOfSettled s

-- a settled graph is within the measures of its tape
abbrev pub SettledGraphsAreWithin : Type 0
SettledGraphsAreWithin = (t : TapeView) (s : SettledView) (m : Measures)
    → IsSettledOf t s → IsNoLarger t s → AreMeasuresOf t m → IsWithin s m

-- a settled graph is within its own measures
abbrev pub OwnMeasuresAreWithin : Type 0
OwnMeasuresAreWithin =
    (s : SettledView) (m : Measures) → AreMeasuresOfSettled s m → IsWithin s m

-- no budget number is greater, where each has its own number of levels
pub record AreNoGreater (less more : Measures) : Type 0 where
  pub plain_lines : (borrowed : ℕ) → plain_lines less borrowed ≤ plain_lines more borrowed
  pub plain_gates : plain_gates less ≤ plain_gates more
  pub fine_lines : (few many borrowed : ℕ)
      → IsLevels 1 less.steps few → IsLevels 1 more.steps many
      → fine_lines less few borrowed ≤ fine_lines more many borrowed
  pub fine_gates : (few many : ℕ) → IsLevels 1 less.steps few → IsLevels 1 more.steps many
      → fine_gates less few ≤ fine_gates more many
  pub block_lines : (block few many borrowed : ℕ)
      → IsLevels block less.steps few → IsLevels block more.steps many
      → block_lines less block few borrowed ≤ block_lines more block many borrowed
  pub block_gates : (block few many : ℕ)
      → IsLevels block less.steps few → IsLevels block more.steps many
      → block_gates less block few ≤ block_gates more block many
  pub eager_lines : (borrowed : ℕ) → eager_lines less borrowed ≤ eager_lines more borrowed
  pub eager_gates : eager_gates less ≤ eager_gates more

-- no budget number of a settled graph is greater than that of measures within which it is
abbrev pub BudgetsAreNoGreater : Type 0
BudgetsAreNoGreater = (s : SettledView) (own m : Measures)
    → AreMeasuresOfSettled s own → IsWithin s m → AreNoGreater own m

-- Nodes of a settled graph that go to one output alone, and the ANDs that do not.
use Rattle.std.specs.Prelude.{◌≡◌, ℕ, ◌+◌, ◌≤◌, ◌==◌, Bool, true, false, List, [], ◌∷◌, ◌++◌, cond, slice_get, Some}
use Rattle.std.specs.List.{flat_map}
use Rattle.dependency_graph.specs.declared.node.Base.{Base}
use Rattle.dependency_graph.specs.declared.node.Base.TheVariants as bases
use Rattle.dependency_graph.specs.declared.node.Node.{Node}
use Rattle.dependency_graph.specs.declared.node.Node.TheVariants.{Not, Xor, And}
use Rattle.dependency_graph.specs.declared.node.Sig.{Sig}
use Rattle.dependency_graph.specs.Graphs.{and_count, base_of, nodes_among, operands}
use Rattle.claim_check.specs.Settled.{SettledView}

-- ---- uses

-- how often a node stands in a list of uses
abbrev pub times_in : ℕ → List ℕ → ℕ
times_in k [] = 0
times_in k (x ∷ xs) = cond (k == x) 1 0 + times_in k xs

-- the uses of nodes in these nodes, and then in these outputs
abbrev pub uses_in : List Node → List Sig → List ℕ
uses_in nodes outputs =
    flat_map (λ (node : Node). nodes_among (operands node)) nodes
    ++ nodes_among (flat_map base_of outputs)

-- ---- nodes that go to one output alone

-- whether a base is a node of a set
abbrev pub is_in : (ℕ → Bool) → Base → Bool
is_in lone (bases.Input i) = false
is_in lone (bases.Node k) = lone k

-- node k takes no node of a set by an AND, and one by an XOR or a NOT only where it is in the set
-- too
abbrev pub KeepsAlone : (ℕ → Bool) → ℕ → Node → Type 0
KeepsAlone lone k (Not a) = is_in lone a ≡ true → lone k ≡ true
KeepsAlone lone k (Xor a b) =
    (is_in lone a ≡ true → lone k ≡ true) × (is_in lone b ≡ true → lone k ≡ true)
KeepsAlone lone k (And a b) = (is_in lone a ≡ false) × (is_in lone b ≡ false)

-- A set of nodes, each of which ends in one output by exclusive ors alone: it is used at most once;
-- no AND takes it; and the XOR or NOT that takes it is in the set too.
pub record GoToOneOutput (s : SettledView) (lone : ℕ → Bool) : Type 0 where
  pub once : (k : ℕ) → lone k ≡ true → times_in k (uses_in s.nodes s.outputs) ≤ 1
  pub summed : (k : ℕ) (node : Node) → slice_get s.nodes k ≡ Some node → KeepsAlone lone k node

-- ---- what is counted

-- what the elements count together, each at its place, the first at the k-th
abbrev pub sum_from : {A : Type 0} → (ℕ → A → ℕ) → ℕ → List A → ℕ
sum_from count k [] = 0
sum_from count k (x ∷ xs) = count k x + sum_from count (k + 1) xs

-- what counts, unless its place is of the set
abbrev pub beside : Bool → ℕ → ℕ
beside true n = 0
beside false n = n

-- the ANDs that are not of a set
abbrev pub ands_beside : (ℕ → Bool) → List Node → ℕ
ands_beside lone nodes = sum_from (λ k node. beside (lone k) (and_count node)) 0 nodes

-- Marks of how often nodes are used.
use Rattle.std.specs.Prelude.{◌≡◌, ℕ, ◌<◌, ◌≤◌, Bool, true, false, List, [], length, slice_index_or, slice_set, take, ⊤}
use Rattle.std.specs.List.{AllByRecursion, flat_map}
use Rattle.dependency_graph.specs.declared.node.Base.{Base}
use Rattle.dependency_graph.specs.declared.node.Base.TheVariants as bases
use Rattle.dependency_graph.specs.declared.node.Node.{Node}
use Rattle.dependency_graph.specs.declared.node.Node.TheVariants.{Not, Xor, And}
use Rattle.dependency_graph.specs.declared.node.Sig.{Sig}
use Rattle.dependency_graph.specs.declared.node.Sig.TheVariants.{Const, Is}
use Rattle.claim_check.specs.Settled.{SettledView}
use Rattle.sum_graph.specs.declared.shared.Use.{Use}
use Rattle.sum_graph.specs.declared.shared.Use.TheVariants.{Never, Once, Shared}
use Rattle.sum_graph.specs.Lone.{times_in, uses_in}
use Rattle.sum_graph.specs.inside.Walks.{factors_of}

-- each of some numbers is below a bound
abbrev pub AreWithin : ℕ → List ℕ → Type 0
AreWithin n some = AllByRecursion (λ k. k < n) some

abbrev pub after_use : Use → Use
after_use Never = Once
after_use Once = Shared
after_use Shared = Shared

abbrev pub is_shared_mark : Use → Bool
is_shared_mark Never = false
is_shared_mark Once = false
is_shared_mark Shared = true

-- the mark of a node; what is no node counts as shared
abbrev pub mark_at : List Use → ℕ → Use
mark_at marks k = slice_index_or marks k Shared

-- the marks after a use of a base
abbrev pub marked : Base → List Use → List Use
marked (bases.Input i) marks = marks
marked (bases.Node k) marks = slice_set marks k (after_use (mark_at marks k))

-- the marks after a use as a factor
abbrev pub marked_factor : Base → List Use → List Use
marked_factor (bases.Input i) marks = marks
marked_factor (bases.Node k) marks = slice_set marks k Shared

abbrev pub marked_node : Node → List Use → List Use
marked_node (Not a) marks = marked a marks
marked_node (Xor a b) marks = marked b (marked a marks)
marked_node (And a b) marks = marked_factor b (marked_factor a marks)

abbrev pub marked_output : Sig → List Use → List Use
marked_output (Const bit) marks = marks
marked_output (Is base) marks = marked base marks

-- a mark tells how often a node is used
abbrev pub IsMark : ℕ → Use → Type 0
IsMark times Never = times ≡ 0
IsMark times Once = times ≡ 1
IsMark times Shared = ⊤

-- the marks tell how often each node stands in these uses; these factors are shared, and else what
-- is used twice
pub record AreMarked (uses wanted : List ℕ) (marks : List Use) : Type 0 where
  pub each : (k : ℕ) → IsMark (times_in k uses) (mark_at marks k)
  pub factors : AllByRecursion (λ k. mark_at marks k ≡ Shared) wanted
  pub only : (lone : ℕ → Bool) → AllByRecursion (λ k. lone k ≡ false) wanted → (k : ℕ)
      → k < length marks → lone k ≡ true → mark_at marks k ≡ Shared → 2 ≤ times_in k uses

-- the uses by the first k nodes are marked
pub record AreNodesMarked (s : SettledView) (k : ℕ) (marks : List Use) : Type 0 where
  pub long : length marks ≡ length s.nodes
  pub are : AreMarked (uses_in (take k s.nodes) []) (flat_map factors_of (take k s.nodes)) marks

-- the uses by all nodes and by the first j outputs are marked
pub record AreOutputsMarked (s : SettledView) (j : ℕ) (marks : List Use) : Type 0 where
  pub long : length marks ≡ length s.nodes
  pub are : AreMarked (uses_in s.nodes (take j s.outputs)) (flat_map factors_of s.nodes) marks

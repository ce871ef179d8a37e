-- The levels of the first nodes.
use Rattle.std.specs.Prelude.{◌≡◌, ℕ, ◌≤◌, List, [], take}
use Rattle.std.specs.List.{AllByRecursion}
use Rattle.dependency_graph.specs.declared.node.Node.{Node}
use Rattle.copied_plans.specs.Levels.{greatest_of, levels_made}

-- those of the first k nodes, none above k, and the greatest of them
pub record AreLevelsOf (nodes : List Node) (k : ℕ) (levels : List ℕ) (depth : ℕ) : Type 0 where
  pub are : levels ≡ levels_made [] (take k nodes)
  pub few : AllByRecursion (λ (level : ℕ). level ≤ k) levels
  pub greatest : depth ≡ greatest_of levels

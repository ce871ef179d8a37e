-- Levels of nodes.
use Rattle.std.proofs.Common.{◌≡◌, ℕ, zero, suc, ◌+◌, ◌≤◌, max, List, [], ◌∷◌, ◌++◌, length, take, get_or, slice_get, Some}
use Rattle.std.proofs.Common.{refl, sym, ap, subst, ◌∙◌, arith}
use Rattle.std.specs.List.{AllByRecursion}
use Rattle.std.proofs.lemmas.List.{get_or_append_left, take_more}
use Rattle.std.proofs.Math.Seq.{take-length}
use Rattle.std.proofs.lemmas.Option.{get_or_from_slice_get, slice_get_within}
use Rattle.list_facts.proofs.AllLemmas.{AllByRecursion-append, AllByRecursion-weaker}
use Rattle.dependency_graph.specs.declared.node.Base.{Base}
use Rattle.dependency_graph.specs.declared.node.Base.TheVariants as bases
use Rattle.dependency_graph.specs.declared.node.Node.{Node}
use Rattle.dependency_graph.specs.declared.node.Node.TheVariants.{Not, Xor, And}
use Rattle.dependency_graph.specs.Graphs.{IsKnownBase}
use Rattle.copied_plans.specs.Levels.{and_depth, base_level, greatest_of, levels_made, node_level}
use Rattle.copied_plans.specs.inside.Levelling.{AreLevelsOf}

greatest_more : (levels : List ℕ) (level : ℕ) → greatest_of (levels ++ level ∷ []) ≡ max (greatest_of levels) level
greatest_more [] level = omega arith
greatest_more (x ∷ xs) level = let rest = greatest_more xs level in omega (arith, rest)

greatest_grows : (levels : List ℕ) (nodes : List Node) → greatest_of levels ≤ greatest_of (levels_made levels nodes)
greatest_grows levels [] = omega arith
greatest_grows levels (node ∷ rest) =
    let more = greatest_more levels (node_level levels node) in
    let grown = greatest_grows (levels ++ node_level levels node ∷ []) rest in
    omega (arith, more, grown)

-- no level is above the greatest of all
pub level_bound : (levels : List ℕ) (node : Node) (rest : List Node) → node_level levels node ≤ greatest_of (levels_made levels (node ∷ rest))
level_bound levels node rest =
    let more = greatest_more levels (node_level levels node) in
    let grown = greatest_grows (levels ++ node_level levels node ∷ []) rest in
    omega (arith, more, grown)

-- one level more leaves those of known bases
pub known_level : (n : ℕ) (levels : List ℕ) (level : ℕ) (base : Base) → IsKnownBase n (length levels) base
    → base_level (levels ++ level ∷ []) base ≡ base_level levels base
known_level n levels level (bases.Input i) known = omega arith
known_level n levels level (bases.Node j) known = get_or_append_left levels (level ∷ []) 0 j known

-- ---- levels as they are made

levels_push : (levels : List ℕ) (nodes : List Node) (node : Node)
    → levels_made levels (nodes ++ node ∷ []) ≡ levels_made levels nodes ++ node_level (levels_made levels nodes) node ∷ []
levels_push levels [] node = refl
levels_push levels (x ∷ xs) node = levels_push (levels ++ node_level levels x ∷ []) xs node

low_base : (most : ℕ) (levels : List ℕ) (base : Base) → AllByRecursion (λ (level : ℕ). level ≤ most) levels → base_level levels base ≤ most
low_base most levels (bases.Input i) low = omega arith
low_base most [] (bases.Node j) low = omega arith
low_base most (x ∷ xs) (bases.Node zero) low = low.0
low_base most (x ∷ xs) (bases.Node (suc j)) low = low_base most xs (bases.Node j) low.1

low_node : (most : ℕ) (levels : List ℕ) (node : Node) → AllByRecursion (λ (level : ℕ). level ≤ most) levels → node_level levels node ≤ most + 1
low_node most levels (Not a) low = let one = low_base most levels a low in omega (arith, one)
low_node most levels (Xor a b) low = let one = low_base most levels a low in let other = low_base most levels b low in omega (arith, one, other)
low_node most levels (And a b) low = let one = low_base most levels a low in let other = low_base most levels b low in omega (arith, one, other)

pub low_levels : (k most : ℕ) (levels : List ℕ) → k ≤ most → AllByRecursion (λ (level : ℕ). level ≤ k) levels
    → AllByRecursion (λ (level : ℕ). level ≤ most) levels
low_levels k most levels less low =
    AllByRecursion-weaker (λ (level : ℕ). level ≤ k) (λ (level : ℕ). level ≤ most) (λ level is. omega (arith, is, less)) levels low

pub one_level : (nodes : List Node) (k : ℕ) (node : Node) (levels next : List ℕ) (level depth more : ℕ) → slice_get nodes k ≡ Some node
    → level ≡ node_level levels node → next ≡ levels ++ level ∷ [] → more ≡ max depth level → AreLevelsOf nodes k levels depth
    → AreLevelsOf nodes (k + 1) next more
one_level nodes k node levels next level depth more at is pushed grown before =
    let here : get_or nodes k node ≡ node = get_or_from_slice_get nodes k node node at in
    record {
      are = pushed ∙ ap (λ (l : ℕ). levels ++ l ∷ []) is ∙ ap (λ (ls : List ℕ). ls ++ node_level ls node ∷ []) before.are
          ∙ sym (levels_push [] (take k nodes) node) ∙ ap (λ (x : Node). levels_made [] (take k nodes ++ x ∷ [])) (sym here)
          ∙ ap (λ (ns : List Node). levels_made [] ns) (sym (take_more nodes k node (slice_get_within nodes k node at)));
      few = subst (λ (ls : List ℕ). AllByRecursion (λ (l : ℕ). l ≤ k + 1) ls) (sym pushed)
          (AllByRecursion-append (λ (l : ℕ). l ≤ k + 1) levels (level ∷ []) (low_levels k (k + 1) levels (omega arith) before.few)
          ((let low = low_node k levels node before.few in omega (arith, low, is)), tt));
      greatest = let most = greatest_more levels level in
          let same : greatest_of next ≡ greatest_of (levels ++ level ∷ []) = ap greatest_of pushed in
          omega (arith, grown, before.greatest, most, same);
    }

pub all_levels : (nodes : List Node) (k : ℕ) (levels : List ℕ) (depth : ℕ) → k ≡ length nodes → AreLevelsOf nodes k levels depth → depth ≡ and_depth nodes
all_levels nodes k levels depth whole before =
    before.greatest ∙ ap greatest_of (before.are ∙ ap (λ (ns : List Node). levels_made [] ns) (ap (λ (n : ℕ). take n nodes) whole ∙ take-length nodes))

-- What the private steps of a call promise.
use Rattle.std.specs.Prelude.{◌≡◌, ◌≢◌, ℕ, ◌+◌, Contains, ◌<◌, ◌≤◌, ◌⊎◌, min, if◌then◌else◌, List}
use Rattle.decision_diagram.specs.declared.memo.Operands.{Operands}
use Rattle.decision_diagram.specs.Functions.{Assignment, Function, flipped}
use Rattle.decision_diagram.specs.Diagrams.{Triple, DiagramView, IsNumber, branch, function_of, first_variable, IsBehind, IsCanonical}
use Rattle.decision_diagram.specs.Growth.{KeepsNodes, AddsOnlyFrom}

-- what the diagram keeps, and what a call that was asked for f may add to it
pub record Grows (f : Function) (old now : DiagramView) : Type 0 where
  pub canonical : IsCanonical now
  pub kept : KeepsNodes old now
  pub added : AddsOnlyFrom f old.nodes now.nodes

-- f asks the node's variable first, and goes on to one of its two branches
pub record Branches (vars : ℕ) (nodes : List Triple) (f : Function) (node : Triple) : Type 0 where
  pub different : node.low ≢ node.high
  pub low : IsBehind vars nodes node.variable node.low
  pub high : IsBehind vars nodes node.variable node.high
  pub same : (a : Assignment) → f a ≡ function_of nodes (branch node a) a

-- what holds of the node with a number
pub record IsInner (vars : ℕ) (nodes : List Triple) (n : ℕ) (node : Triple) : Type 0 where
  pub contained : Contains nodes node
  pub known : IsNumber nodes n
  pub low_before : node.low < n
  pub high_before : node.high < n
  pub first : first_variable vars nodes n ≡ node.variable
  pub branches : Branches vars nodes (function_of nodes n) node

-- n goes to low or to high by this variable, and these ask only later ones
pub record Splits (vars : ℕ) (nodes : List Triple) (variable n low high : ℕ) : Type 0 where
  pub low_behind : IsBehind vars nodes variable low
  pub high_behind : IsBehind vars nodes variable high
  pub low_most : low ≤ n
  pub high_most : high ≤ n
  pub smaller : first_variable vars nodes n ≡ variable → (low < n) × (high < n)
  pub same : (a : Assignment) → function_of nodes n a ≡ function_of nodes
      (if a variable then high else low) a

-- the function of a node that goes to numbers of these nodes
abbrev pub node_function : List Triple → Triple → Function
node_function nodes node a = function_of nodes (branch node a) a

-- ---- a target and two controls

-- the function that operands ask for
abbrev pub flipped_at : List Triple → Operands → Function
flipped_at nodes o =
    flipped (function_of nodes o.target) (function_of nodes o.left) (function_of nodes o.right)

pub record AreNumbers (nodes : List Triple) (o : Operands) : Type 0 where
  pub target : IsNumber nodes o.target
  pub left : IsNumber nodes o.left
  pub right : IsNumber nodes o.right

pub record AreBehind (vars : ℕ) (nodes : List Triple) (variable : ℕ) (o : Operands)
    : Type 0 where
  pub target : IsBehind vars nodes variable o.target
  pub left : IsBehind vars nodes variable o.left
  pub right : IsBehind vars nodes variable o.right

-- the first variable that one of them asks
abbrev pub first_asked : ℕ → List Triple → Operands → ℕ
first_asked vars nodes o =
    min (min (first_variable vars nodes o.target) (first_variable vars nodes o.left))
    (first_variable vars nodes o.right)

abbrev pub total : Operands → ℕ
total o = o.target + o.left + o.right

-- the number is one of the operands, or a constant
abbrev pub IsOneOf : Operands → ℕ → Type 0
IsOneOf o h = (h ≡ o.target) ⊎ ((h ≡ o.left) ⊎ ((h ≡ o.right) ⊎ (h < 2)))

-- what a product of two numbers is where no node has to be looked at: false, or one of them where
-- neither is false
abbrev pub IsProduct : ℕ → ℕ → ℕ → Type 0
IsProduct f g h = (h ≡ 0) ⊎ ((1 ≤ f) × (1 ≤ g) × ((h ≡ f) ⊎ (h ≡ g)))

-- neither is false, and they are different
pub record AreUnlike (f g : ℕ) : Type 0 where
  pub left : 1 ≤ f
  pub right : 1 ≤ g
  pub different : f ≢ g

-- the operands go to low or to high by this variable, and these ask only later ones
pub record SplitAll (vars : ℕ) (nodes : List Triple) (variable : ℕ) (o low high : Operands)
    : Type 0 where
  pub low_behind : AreBehind vars nodes variable low
  pub high_behind : AreBehind vars nodes variable high
  pub low_less : total low < total o
  pub high_less : total high < total o
  pub same : (a : Assignment) → flipped_at nodes o a
      ≡ flipped_at nodes (if a variable then high else low) a

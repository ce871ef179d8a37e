-- What a call adds to a diagram, and what its answer and its refusal mean.
use Rattle.std.specs.Prelude.{◌≡◌, ℕ, ◌<◌, ◌≤◌, List, ◌∷◌, ◌++◌, length, Result, IfErr, IfOk}
use Rattle.decision_diagram.specs.declared.node.DdFault.{DdFault}
use Rattle.decision_diagram.specs.declared.node.DdFault.TheVariants.{Full, Memory}
use Rattle.decision_diagram.specs.Functions.{Assignment, Function, AreSame, Varies, ComesFrom}
use Rattle.decision_diagram.specs.Diagrams.{Triple, DiagramView, IsNumber, next_number, branch, function_of, IsCanonical}

-- the nodes from before stay, and the numbers of variables and of nodes that are allowed
pub record KeepsNodes (old now : DiagramView) : Type 0 where
  pub vars : now.vars ≡ old.vars
  pub limit : now.limit ≡ old.limit
  pub added : List Triple
  pub nodes : now.nodes ≡ added ++ old.nodes

-- every number from before is still a number, with the same function
abbrev pub KeepsFunctions : List Triple → List Triple → Type 0
KeepsFunctions old now =
    (n : ℕ) → IsNumber old n → IsNumber now n × AreSame (function_of now n) (function_of old n)

-- each inner node that is new stands for a function that comes from f
abbrev pub AddsOnlyFrom : Function → List Triple → List Triple → Type 0
AddsOnlyFrom f old now =
    (n : ℕ) → next_number old ≤ n → n < next_number now → ComesFrom f (function_of now n)

-- the number stands for the function
pub record StandsFor (nodes : List Triple) (n : ℕ) (f : Function) : Type 0 where
  pub known : IsNumber nodes n
  pub same : AreSame (function_of nodes n) f

-- an inner node stands for the function
pub record IsHeld (nodes : List Triple) (f : Function) : Type 0 where
  pub number : ℕ
  pub inner : 2 ≤ number
  pub stands : StandsFor nodes number f

-- each function that comes from f and is not constant is held
abbrev pub HoldsAllFrom : Function → List Triple → Type 0
HoldsAllFrom f nodes = (g : Function) → ComesFrom f g → Varies g → IsHeld nodes g

-- one more node is needed: some function that comes from f and is not constant is not held
pub record NeedsAnother (f : Function) (nodes : List Triple) : Type 0 where
  pub function : Function
  pub comes : ComesFrom f function
  pub varies : Varies function
  pub missing : IsHeld nodes function → ⊥

-- the diagram is full, and f needs one more node
pub record IsFullFor (f : Function) (d : DiagramView) (nodes : ℕ) : Type 0 where
  pub at_limit : nodes ≡ d.limit
  pub full : length d.nodes ≡ d.limit
  pub needs : NeedsAnother f d.nodes

-- the diagram may refuse f with this fault; want of memory has no cause, and comes only where there
-- is room
abbrev pub MayRefuse : Function → DiagramView → DdFault → Type 0
MayRefuse f d (Full nodes) = IsFullFor f d nodes
MayRefuse f d (Memory _) = length d.nodes < d.limit

-- A call that is asked for f: what it leaves of the diagram and adds to it, and that its answer is
-- the number of f. Each inner node that it adds comes from f; at an answer these are nodes of f.
pub record Computes (f : Function) (old now : DiagramView) (result : Result ℕ DdFault)
    : Type 0 where
  pub canonical : IsCanonical now
  pub kept : KeepsNodes old now
  pub earlier : KeepsFunctions old.nodes now.nodes
  pub added : AddsOnlyFrom f old.nodes now.nodes
  pub answer : IfOk result (λ h. StandsFor now.nodes h f)
  pub held : IfOk result (λ h. HoldsAllFrom (function_of now.nodes h) now.nodes)
  pub refused : IfErr result (MayRefuse f now)

-- The function of a node is that of the number to which it goes.
abbrev pub NodesGoOn : Type 0
NodesGoOn =
    (d : DiagramView) → IsCanonical d → (newer older : List Triple) (node : Triple)
    → d.nodes ≡ newer ++ node ∷ older → (a : Assignment)
    → function_of d.nodes (next_number older) a ≡ function_of d.nodes (branch node a) a

-- Equal functions have equal numbers.
abbrev pub EqualFunctionsHaveOneNumber : Type 0
EqualFunctionsHaveOneNumber =
    (d : DiagramView) → IsCanonical d → (m n : ℕ) → IsNumber d.nodes m → IsNumber d.nodes n
    → AreSame (function_of d.nodes m) (function_of d.nodes n) → m ≡ n

-- No inner node stands for a constant.
abbrev pub InnerNodesVary : Type 0
InnerNodesVary =
    (d : DiagramView) → IsCanonical d → (n : ℕ) → 2 ≤ n → IsNumber d.nodes n
    → Varies (function_of d.nodes n)

-- A function asks the variables of its diagram alone.
abbrev pub FunctionsAskTheVariables : Type 0
FunctionsAskTheVariables =
    (d : DiagramView) → IsCanonical d → (n : ℕ) → IsNumber d.nodes n → (a b : Assignment)
    → ((i : ℕ) → i < d.vars → a i ≡ b i) → function_of d.nodes n a ≡ function_of d.nodes n b

-- What comes from a function of a diagram and is not constant has an inner node.
abbrev pub DiagramsHoldWhatComes : Type 0
DiagramsHoldWhatComes =
    (d : DiagramView) → IsCanonical d → (n : ℕ) → IsNumber d.nodes n
    → HoldsAllFrom (function_of d.nodes n) d.nodes

-- What contracts see of a diagram, and the function of a number.
use Rattle.std.specs.Prelude.{◌≢◌, ℕ, ◌+◌, ◌<◌, ◌≤◌, Bool, nat_eq, if◌then◌else◌, List, [], ◌∷◌, length, Contains}
use Rattle.decision_diagram.specs.Functions.{Assignment, Function}

-- an inner node: the variable that it asks, and the numbers that it goes to at false and at true
pub record Triple : Type 0 where
  pub variable : ℕ
  pub low : ℕ
  pub high : ℕ

-- the number of variables, the most inner nodes, and the inner nodes, newest first
pub record DiagramView : Type 0 where
  pub vars : ℕ
  pub limit : ℕ
  pub nodes : List Triple

-- The numbers 0 and 1 are the constants false and true, and the inner nodes have the numbers from 2
-- on, in the order in which they were made. This is the number of the inner node that is made next.
abbrev pub next_number : List Triple → ℕ
next_number nodes = 2 + length nodes

-- the number is one of these nodes or a constant
abbrev pub IsNumber : List Triple → ℕ → Type 0
IsNumber nodes n = n < next_number nodes

-- where a node goes at a bit of its variable
abbrev pub side : Triple → Bool → ℕ
side node bit = if bit then node.high else node.low

-- where a node goes at an assignment
abbrev pub branch : Triple → Assignment → ℕ
branch node a = side node (a node.variable)

-- the function of a number: the newest node goes to an older number, and any other number is an
-- older one
abbrev pub function_of : List Triple → ℕ → Function
function_of [] n a = nat_eq n 1
function_of (node ∷ older) n a =
    function_of older (if nat_eq n (next_number older) then branch node a else n) a

-- the variable that a number asks first; `vars`, which is past every variable, for a constant
abbrev pub first_variable : ℕ → List Triple → ℕ → ℕ
first_variable vars [] n = vars
first_variable vars (node ∷ older) n =
    if nat_eq n (next_number older) then node.variable else first_variable vars older n

-- the number is one of these nodes or a constant, and asks only variables behind this one
pub record IsBehind (vars : ℕ) (nodes : List Triple) (variable n : ℕ) : Type 0 where
  pub known : IsNumber nodes n
  pub behind : variable < first_variable vars nodes n

-- the node may be made after the older ones
pub record MayFollow (vars : ℕ) (older : List Triple) (node : Triple) : Type 0 where
  pub different : node.low ≢ node.high
  pub low : IsBehind vars older node.variable node.low
  pub high : IsBehind vars older node.variable node.high
  pub missing : Contains older node → ⊥

-- Low and high of a node differ, children stand before their parents and ask later variables, and
-- no node stands twice.
abbrev pub AreOrdered : ℕ → List Triple → Type 0
AreOrdered vars [] = Unit {0}
AreOrdered vars (node ∷ older) = MayFollow vars older node × AreOrdered vars older

-- what every diagram keeps
pub record IsCanonical (d : DiagramView) : Type 0 where
  pub ordered : AreOrdered d.vars d.nodes
  pub within : length d.nodes ≤ d.limit

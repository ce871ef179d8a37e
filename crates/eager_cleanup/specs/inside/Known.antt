-- Known values: the polynomials of nodes over the inputs.
use Rattle.std.specs.Prelude.{◌≡◌, ℕ, ◌<◌, ◌≤◌, Bool, not, ◌&&◌, List, [], ◌∷◌, length, slice_index_or, Option, Some, None}
use Rattle.std.specs.Bool.{xor}
use Rattle.claim_check.specs.Budgets.{most_cleaned}
use Rattle.claim_check.specs.Measures.{node_function}
use Rattle.claim_check.specs.Settled.{SettledView, as_graph}
use Rattle.dependency_graph.specs.declared.node.Base.{Base}
use Rattle.dependency_graph.specs.declared.node.Base.TheVariants as bases
use Rattle.dependency_graph.specs.declared.node.Node.{Node}
use Rattle.dependency_graph.specs.declared.node.Node.TheVariants.{Not, Xor, And}
use Rattle.dependency_graph.specs.Uses.{last_use_in}
use Rattle.exclusive_sums.specs.Limits.{IsPolynomialUpTo}
use Rattle.revs_tape.specs.Monomials.{AreMonomialsOf}
use Rattle.revs_tape.specs.Polynomials.{value_of_polynomial}

-- ---- values

abbrev pub Polynomial : Type 0
Polynomial = List (List ℕ)

-- the value of a node, where it is known
abbrev pub value_at : List (Option Polynomial) → ℕ → Option Polynomial
value_at known k = slice_index_or known k None

-- a node has too many monomials to be cleaned by them
pub record HasLargeNode (s : SettledView) : Type 0 where
  pub node : ℕ
  pub inside : node < length s.nodes
  pub monomials : Polynomial
  pub are : AreMonomialsOf s.inputs (node_function s node) monomials
  pub large : most_cleaned < length monomials

-- the monomials of a node, few of them
pub record IsKnownPolynomial (s : SettledView) (k : ℕ) (p : Polynomial) : Type 0 where
  pub are : AreMonomialsOf s.inputs (node_function s k) p
  pub few : length p ≤ most_cleaned

-- the value of a node is its polynomial, or it is not known since some node has too many monomials
abbrev pub IsKnownValue : SettledView → ℕ → Option Polynomial → Type 0
IsKnownValue s k None = HasLargeNode s
IsKnownValue s k (Some p) = IsKnownPolynomial s k p

abbrev pub last_use_of : SettledView → ℕ → ℕ
last_use_of s k = last_use_in (as_graph s) k

-- These are the values of the first `count` nodes. What stands for a node that is no output and
-- that no later node uses is left open.
pub record AreFirstValues (s : SettledView) (count : ℕ)
    (known : List (Option Polynomial)) : Type 0 where
  pub one_each : length known ≡ count
  pub each : (k : ℕ) → k < count → count ≤ last_use_of s k → IsKnownValue s k (value_at known k)

-- ---- one value more

-- the polynomial of an input
abbrev pub input_value : ℕ → Polynomial
input_value i = (i ∷ []) ∷ []

-- these are the polynomials of the first inputs
pub record AreInputValues (inputs : List Polynomial) : Type 0 where
  pub each : (i : ℕ) → i < length inputs → slice_index_or inputs i [] ≡ input_value i

-- the value of a base, where it is known
abbrev pub base_value : List Polynomial → List (Option Polynomial) → Base → Option Polynomial
base_value inputs known (bases.Input i) = Some (slice_index_or inputs i [])
base_value inputs known (bases.Node k) = value_at known k

-- the negation of a value
abbrev pub IsNegation : Option Polynomial → Option Polynomial → Type 0
IsNegation None answer = answer ≡ None
IsNegation (Some p) answer =
    IsPolynomialUpTo most_cleaned (λ x. not (value_of_polynomial x p)) answer

-- two values joined
abbrev pub IsJoin : (Bool → Bool → Bool) → Option Polynomial → Option Polynomial
    → Option Polynomial → Type 0
IsJoin join None b answer = answer ≡ None
IsJoin join (Some p) None answer = answer ≡ None
IsJoin join (Some p) (Some q) answer =
    IsPolynomialUpTo most_cleaned
    (λ x. join (value_of_polynomial x p) (value_of_polynomial x q)) answer

-- the value of a node, by those of its operands
abbrev pub IsValueOf : List Polynomial → List (Option Polynomial) → Node
    → Option Polynomial → Type 0
IsValueOf inputs known (Not a) answer = IsNegation (base_value inputs known a) answer
IsValueOf inputs known (Xor a b) answer =
    IsJoin xor (base_value inputs known a) (base_value inputs known b) answer
IsValueOf inputs known (And a b) answer =
    IsJoin (λ p q. p && q) (base_value inputs known a) (base_value inputs known b) answer

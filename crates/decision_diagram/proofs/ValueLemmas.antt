-- The functions of numbers: what a new node changes, and which variables a number asks.
use Rattle.std.proofs.Common.{◌≡◌, ℕ, ◌<◌, ◌≤◌, Bool, true, false, nat_eq, if◌then◌else◌, List, [], ◌∷◌, ◌⊎◌, refl, sym, ap, ◌∙◌, inl, inr, arith, eq-eqb}
use Rattle.std.proofs.Common.{ne_eqb}
use Rattle.std.proofs.lemmas.Bool.{cases_eq}
use Rattle.decision_diagram.specs.Functions.{Assignment}
use Rattle.decision_diagram.specs.Diagrams.{Triple, IsNumber, next_number, branch, function_of, first_variable, IsBehind, AreOrdered}

-- a number is that of the newest node or an older one
pub cases_number : (older : List Triple) (node : Triple) (n : ℕ) → IsNumber (node ∷ older) n
    → (n ≡ next_number older) ⊎ IsNumber older n
cases_number older node n known =
    elim (cases_eq n (next_number older)) [ inl e ↦ inl e | inr e ↦ inr (omega arith) ]

pub function-newest : (older : List Triple) (node : Triple) (a : Assignment)
    → function_of (node ∷ older) (next_number older) a ≡ function_of older (branch node a) a
function-newest older node a =
    ap (λ t. function_of older (if t then branch node a else next_number older) a) (eq-eqb (next_number older) (next_number older) refl)

pub function-older : (older : List Triple) (node : Triple) (n : ℕ) (a : Assignment) → IsNumber older n
    → function_of (node ∷ older) n a ≡ function_of older n a
function-older older node n a known =
    ap (λ t. function_of older (if t then branch node a else n) a) (ne_eqb n (next_number older) (λ e. omega arith))

pub first-newest : (vars : ℕ) (older : List Triple) (node : Triple)
    → first_variable vars (node ∷ older) (next_number older) ≡ node.variable
first-newest vars older node =
    ap (λ t. if t then node.variable else first_variable vars older (next_number older)) (eq-eqb (next_number older) (next_number older) refl)

pub first-older : (vars : ℕ) (older : List Triple) (node : Triple) (n : ℕ) → IsNumber older n
    → first_variable vars (node ∷ older) n ≡ first_variable vars older n
first-older vars older node n known =
    ap (λ t. if t then node.variable else first_variable vars older n) (ne_eqb n (next_number older) (λ e. omega arith))

-- either branch of a node is behind its variable
pub branch_behind : (vars : ℕ) (nodes : List Triple) (node : Triple)
    → IsBehind vars nodes node.variable node.low → IsBehind vars nodes node.variable node.high
    → (t : Bool) → IsBehind vars nodes node.variable (if t then node.high else node.low)
branch_behind vars nodes node low high true = high
branch_behind vars nodes node low high false = low

pub first_most : (vars : ℕ) (nodes : List Triple) → AreOrdered vars nodes → (n : ℕ) → first_variable vars nodes n ≤ vars
first_most vars [] ordered n = omega arith
first_most vars (node ∷ older) ordered n =
    elim (nat_eq n (next_number older)) as (λ t. (if t then node.variable else first_variable vars older n) ≤ vars) [
      | true ↦ omega (arith, ordered.0.low.behind, first_most vars older ordered.1 node.low)
      | false ↦ first_most vars older ordered.1 n
    ]

-- a number asks no variable before its first one, and none past the diagram's
pub function-agree : (vars : ℕ) (nodes : List Triple) → AreOrdered vars nodes → (n : ℕ) → IsNumber nodes n → (a b : Assignment)
    → ((i : ℕ) → first_variable vars nodes n ≤ i → i < vars → a i ≡ b i) → function_of nodes n a ≡ function_of nodes n b
function-agree vars [] ordered n known a b agree = refl
function-agree vars (node ∷ older) ordered n known a b agree =
    elim (cases_number older node n known) [
      | inl e ↦
          let first : first_variable vars (node ∷ older) n ≡ node.variable = ap (first_variable vars (node ∷ older)) e ∙ first-newest vars older node in
          let behind = branch_behind vars older node ordered.0.low ordered.0.high (b node.variable) in
          let within = first_most vars older ordered.1 (branch node b) in
          let asked : a node.variable ≡ b node.variable = agree node.variable (omega arith) (omega (arith, behind.behind)) in
          let later : function_of older (branch node b) a ≡ function_of older (branch node b) b =
          function-agree vars older ordered.1 (branch node b) behind.known a b
          (λ i from below. agree i (omega (arith, behind.behind)) below) in
          ap (λ k. function_of (node ∷ older) k a) e ∙ (function-newest older node a
          ∙ (ap (λ t. function_of older (if t then node.high else node.low) a) asked
          ∙ (later ∙ (sym (function-newest older node b) ∙ sym (ap (λ k. function_of (node ∷ older) k b) e)))))
      | inr old ↦
          let first = first-older vars older node n old in
          function-older older node n a old
          ∙ (function-agree vars older ordered.1 n old a b (λ i from below. agree i (omega arith) below)
          ∙ sym (function-older older node n b old))
    ]

-- the assignment with one variable set
abbrev pub set_at : ℕ → Bool → Assignment → Assignment
set_at v bit a = λ i. if nat_eq i v then bit else a i

pub set_at-same : (v : ℕ) (bit : Bool) (a : Assignment) → set_at v bit a v ≡ bit
set_at-same v bit a = ap (λ t. if t then bit else a v) (eq-eqb v v refl)

pub set_at-other : (v : ℕ) (bit : Bool) (a : Assignment) (i : ℕ) → (i ≡ v → ⊥) → set_at v bit a i ≡ a i
set_at-other v bit a i other = ap (λ t. if t then bit else a i) (ne_eqb i v other)

-- a number that asks only later variables does not see it
pub function-set_at : (vars : ℕ) (nodes : List Triple) → AreOrdered vars nodes → (v n : ℕ) → IsBehind vars nodes v n
    → (bit : Bool) (a : Assignment) → function_of nodes n (set_at v bit a) ≡ function_of nodes n a
function-set_at vars nodes ordered v n behind bit a =
    function-agree vars nodes ordered n behind.known (set_at v bit a) a
    (λ i from below. set_at-other v bit a i (λ e. omega (arith, behind.behind)))

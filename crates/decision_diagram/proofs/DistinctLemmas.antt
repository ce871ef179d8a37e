-- Equal functions have equal numbers.
use Rattle.std.proofs.Common.{◌≡◌, ℕ, suc, ◌<◌, ◌≤◌, Bool, true, false, nat_eq, List, [], ◌∷◌, Contains, ◌⊎◌, refl, sym, ap, ◌∙◌, subst, inl, inr, arith}
use Rattle.std.proofs.Common.{eq-eqb, ne_eqb, eqb-true}
use Rattle.std.proofs.lemmas.Bool.{cases_eq, cases_lt, cases_order, eqb-false}
use Rattle.decision_diagram.specs.Functions.{Assignment, Function, AreSame}
use Rattle.decision_diagram.specs.inside.Flipping.{Branches, IsInner}
use Rattle.decision_diagram.specs.Diagrams.{Triple, IsNumber, next_number, side, branch, function_of, first_variable, IsBehind, MayFollow, AreOrdered}
use Rattle.decision_diagram.proofs.ValueLemmas.{cases_number, function-newest, function-older, first-newest, first-older, branch_behind, first_most, set_at}
use Rattle.decision_diagram.proofs.ValueLemmas.{set_at-same, set_at-other, function-set_at}

pub side_behind : (vars : ℕ) (nodes : List Triple) (f : Function) (node : Triple) → Branches vars nodes f node
    → (bit : Bool) → IsBehind vars nodes node.variable (side node bit)
side_behind vars nodes f node at bit = branch_behind vars nodes node at.low at.high bit

-- a branch is the function with the variable set
pub function-side : (vars : ℕ) (nodes : List Triple) → AreOrdered vars nodes → (f : Function) (node : Triple)
    → Branches vars nodes f node → (bit : Bool) (a : Assignment)
    → function_of nodes (side node bit) a ≡ f (set_at node.variable bit a)
function-side vars nodes ordered f node at bit a =
    let there : Assignment = set_at node.variable bit a in
    sym (function-set_at vars nodes ordered node.variable (side node bit) (side_behind vars nodes f node at bit) bit a)
    ∙ (sym (ap (λ t. function_of nodes (side node t) there) (set_at-same node.variable bit a))
    ∙ sym (at.same there))

-- the function asks no variable before the node's
pub function-before : (vars : ℕ) (nodes : List Triple) → AreOrdered vars nodes → (f : Function) (node : Triple)
    → Branches vars nodes f node → (w : ℕ) → w < node.variable → (bit : Bool) (a : Assignment) → f (set_at w bit a) ≡ f a
function-before vars nodes ordered f node at w before bit a =
    let behind = side_behind vars nodes f node at (a node.variable) in
    at.same (set_at w bit a)
    ∙ (ap (λ t. function_of nodes (side node t) (set_at w bit a)) (set_at-other w bit a node.variable (λ e. omega arith))
    ∙ (function-set_at vars nodes ordered w (branch node a)
    (record { known = behind.known; behind = omega (arith, behind.behind) }) bit a
    ∙ sym (at.same a)))

-- equal functions have equal numbers
abbrev pub AreDistinct : List Triple → Type 0
AreDistinct nodes =
    (m n : ℕ) → IsNumber nodes m → IsNumber nodes n → AreSame (function_of nodes m) (function_of nodes n) → m ≡ n

-- a function that asks a node's variable depends on it
pub depends : (vars : ℕ) (nodes : List Triple) → AreOrdered vars nodes → AreDistinct nodes → (f : Function) (node : Triple)
    → Branches vars nodes f node → ((bit : Bool) (a : Assignment) → f (set_at node.variable bit a) ≡ f a) → ⊥
depends vars nodes ordered distinct f node at free =
    at.different (distinct node.low node.high at.low.known at.high.known
    (λ a. function-side vars nodes ordered f node at false a ∙ (free false a
    ∙ (sym (free true a) ∙ sym (function-side vars nodes ordered f node at true a)))))

-- the node with this number
abbrev pub IsAt : List Triple → ℕ → Triple → Type 0
IsAt [] n node = ⊥
IsAt (newest ∷ older) n node = ((n ≡ next_number older) × (newest ≡ node)) ⊎ IsAt older n node

pub behind-older : (vars : ℕ) (older : List Triple) (newest : Triple) (v n : ℕ) → IsBehind vars older v n → IsBehind vars (newest ∷ older) v n
behind-older vars older newest v n behind = record {
  known = omega (arith, behind.known);
  behind = omega (arith, behind.behind, first-older vars older newest n behind.known);
}

pub inner-older : (vars : ℕ) (older : List Triple) (newest : Triple) (n : ℕ) (node : Triple)
    → IsInner vars older n node → IsInner vars (newest ∷ older) n node
inner-older vars older newest n node at = record {
  contained = (suc at.contained.0, omega (arith, at.contained.1), at.contained.2);
  known = omega (arith, at.known);
  low_before = at.low_before;
  high_before = at.high_before;
  first = first-older vars older newest n at.known ∙ at.first;
  branches = record {
    different = at.branches.different;
    low = behind-older vars older newest node.variable node.low at.branches.low;
    high = behind-older vars older newest node.variable node.high at.branches.high;
    same = λ a. function-older older newest n a at.known ∙ (at.branches.same a
        ∙ sym (function-older older newest (branch node a) a (side_behind vars older (function_of older n) node at.branches (a node.variable)).known));
  };
}

pub inner-newest : (vars : ℕ) (older : List Triple) (node : Triple) → MayFollow vars older node
    → IsInner vars (node ∷ older) (next_number older) node
inner-newest vars older node follows = record {
  contained = (0, omega arith, refl);
  known = omega arith;
  low_before = follows.low.known;
  high_before = follows.high.known;
  first = first-newest vars older node;
  branches = record {
    different = follows.different;
    low = behind-older vars older node node.variable node.low follows.low;
    high = behind-older vars older node node.variable node.high follows.high;
    same = λ a. function-newest older node a
        ∙ sym (function-older older node (branch node a) a (branch_behind vars older node follows.low follows.high (a node.variable)).known);
  };
}

pub inner_at : (vars : ℕ) (nodes : List Triple) → AreOrdered vars nodes → (n : ℕ) (node : Triple) → IsAt nodes n node
    → IsInner vars nodes n node
inner_at vars [] ordered n node at = absurd at
inner_at vars (newest ∷ older) ordered n node at =
    elim at [
      | inl e ↦ subst (λ (d : Triple). IsInner vars (newest ∷ older) n d) e.1
          (subst (λ (k : ℕ). IsInner vars (newest ∷ older) k newest) (sym e.0) (inner-newest vars older newest ordered.0))
      | inr old ↦ inner-older vars older newest n node (inner_at vars older ordered.1 n node old)
    ]

-- every number from 2 on has a node
pub some_at : (nodes : List Triple) (n : ℕ) → 2 ≤ n → IsNumber nodes n → (node : Triple) × IsAt nodes n node
some_at [] n inner known = absurd (omega arith)
some_at (newest ∷ older) n inner known =
    elim (cases_number older newest n known) [
      | inl e ↦ (newest, inl (e, refl))
      | inr old ↦ let found = some_at older n inner old in (found.0, inr found.1)
    ]

-- a constant asks no variable
pub first-constant : (vars : ℕ) (nodes : List Triple) (n : ℕ) → n < 2 → first_variable vars nodes n ≡ vars
first-constant vars [] n small = refl
first-constant vars (newest ∷ older) n small =
    first-older vars older newest n (omega arith) ∙ first-constant vars older n small

pub triple-same : (x y : Triple) → x.variable ≡ y.variable → x.low ≡ y.low → x.high ≡ y.high → x ≡ y
triple-same x y v l h =
    ap {B = Triple} (λ (t : ℕ). record { variable = t; low = x.low; high = x.high }) v
    ∙ (ap {B = Triple} (λ (t : ℕ). record { variable = y.variable; low = t; high = x.high }) l
    ∙ ap {B = Triple} (λ (t : ℕ). record { variable = y.variable; low = y.low; high = t }) h)

-- two nodes that one function goes through are one
pub one_node : (vars : ℕ) (nodes : List Triple) → AreOrdered vars nodes → AreDistinct nodes → (f : Function) (x y : Triple)
    → Branches vars nodes f x → Branches vars nodes f y → x ≡ y
one_node vars nodes ordered distinct f x y at_x at_y =
    elim (cases_order x.variable y.variable) [
      | inl e ↦
          let sides : (bit : Bool) → side x bit ≡ side y bit = λ bit.
          distinct (side x bit) (side y bit) (side_behind vars nodes f x at_x bit).known (side_behind vars nodes f y at_y bit).known
          (λ a. function-side vars nodes ordered f x at_x bit a ∙ (ap (λ v. f (set_at v bit a)) e
          ∙ sym (function-side vars nodes ordered f y at_y bit a))) in
          triple-same x y e (sides false) (sides true)
      | inr other ↦ elim other [
        | inl before ↦ absurd (depends vars nodes ordered distinct f x at_x
            (λ bit a. function-before vars nodes ordered f y at_y x.variable before bit a))
        | inr after ↦ absurd (depends vars nodes ordered distinct f y at_y
            (λ bit a. function-before vars nodes ordered f x at_x y.variable after bit a))
      ]
    ]

-- no older number has the function of a new node
pub new_function : (vars : ℕ) (older : List Triple) (node : Triple) → MayFollow vars older node → AreOrdered vars older
    → AreDistinct older → (n : ℕ) → IsNumber older n → AreSame (function_of (node ∷ older) (next_number older)) (function_of older n) → ⊥
new_function vars older node follows ordered distinct n known same =
    let here : Branches vars older (function_of older n) node = record {
      different = follows.different;
      low = follows.low;
      high = follows.high;
      same = λ a. sym (same a) ∙ function-newest older node a;
    } in
    elim (cases_lt n 2) [
      | inl small ↦ depends vars older ordered distinct (function_of older n) node here
          (λ bit a. function-set_at vars older ordered node.variable n
          (record {
            known = known;
            behind = omega
                (arith, first-constant vars older n small, follows.low.behind, first_most vars older ordered node.low);
          }) bit a)
      | inr inner ↦
          let found = some_at older n inner known in
          let at = inner_at vars older ordered n found.0 found.1 in
          follows.missing (subst (λ (d : Triple). Contains older d)
          (one_node vars older ordered distinct (function_of older n) found.0 node at.branches here) at.contained)
    ]

constants_differ : (m n : ℕ) → m < 2 → n < 2 → nat_eq m 1 ≡ nat_eq n 1 → m ≡ n
constants_differ m n small_m small_n same =
    elim (cases_eq m 1) [
      | inl e ↦ e ∙ sym (eqb-true n 1 (sym same ∙ eq-eqb m 1 e))
      | inr other ↦ let n_other = eqb-false n 1 (sym same ∙ ne_eqb m 1 other) in omega arith
    ]

pub distinct_functions : (vars : ℕ) (nodes : List Triple) → AreOrdered vars nodes → AreDistinct nodes
distinct_functions vars [] ordered m n known_m known_n same = constants_differ m n known_m known_n (same (λ i. false))
distinct_functions vars (node ∷ older) ordered m n known_m known_n same =
    let before = distinct_functions vars older ordered.1 in
    elim (cases_number older node m known_m) [
      | inl newest_m ↦ elim (cases_number older node n known_n) [
        | inl newest_n ↦ newest_m ∙ sym newest_n
        | inr old_n ↦ absurd (new_function vars older node ordered.0 ordered.1 before n old_n
            (λ a. sym (ap (λ k. function_of (node ∷ older) k a) newest_m) ∙ (same a ∙ function-older older node n a old_n)))
      ]
      | inr old_m ↦ elim (cases_number older node n known_n) [
        | inl newest_n ↦ absurd (new_function vars older node ordered.0 ordered.1 before m old_m
            (λ a. sym (ap (λ k. function_of (node ∷ older) k a) newest_n) ∙ (sym (same a) ∙ function-older older node m a old_m)))
        | inr old_n ↦ before m n old_m old_n
            (λ a. sym (function-older older node m a old_m) ∙ (same a ∙ function-older older node n a old_n))
      ]
    ]

-- Fixing variables, constants, and which functions a diagram holds.
use Rattle.std.proofs.Common.{◌≡◌, ℕ, ◌<◌, ◌≤◌, Bool, true, false, not, nat_eq, if◌then◌else◌, List, [], ◌∷◌, max, refl, sym, ap, ◌∙◌, subst, inl, inr, arith}
use mathlib.Core.Path.{fun_ext}
use mir.Val.{bool_byte}
use Rattle.std.specs.Bool.{xor}
use Rattle.std.specs.Prelude.{IsTrue, ◌↔◌}
use Rattle.std.proofs.lemmas.Bool.{iff_false, cases_eq, cases_lt, lt-ltb, le-ltb, false≢true}
use Rattle.list_facts.proofs.BitLemmas.{xor_same, xor_none, xor_nothing}
use Rattle.decision_diagram.specs.Functions.{Assignment, Function, AreSame, Takes, Varies, fixed, ComesFrom}
use Rattle.decision_diagram.specs.Diagrams.{Triple, IsNumber, next_number, branch, function_of, first_variable, AreOrdered}
use Rattle.decision_diagram.specs.Growth.{StandsFor, IsHeld, HoldsAllFrom}
use Rattle.decision_diagram.proofs.ValueLemmas.{cases_number, function-newest, function-older, first-newest, branch_behind, function-agree, set_at, set_at-same}
use Rattle.decision_diagram.proofs.ValueLemmas.{function-set_at}

pub fixed-below : (count : ℕ) (bits a : Assignment) (i : ℕ) → i < count → fixed count bits a i ≡ bits i
fixed-below count bits a i below = ap (λ t. if t then bits i else a i) (lt-ltb i count below)

pub fixed-from : (count : ℕ) (bits a : Assignment) (i : ℕ) → count ≤ i → fixed count bits a i ≡ a i
fixed-from count bits a i from = ap (λ t. if t then bits i else a i) (le-ltb i count from)

-- fixing twice is fixing once
fixed-fixed : (m n : ℕ) (first second a : Assignment)
    → fixed m first (fixed n second a) ≡ fixed (max m n) (fixed m first second) a
fixed-fixed m n first second a = fun_ext (λ i.
    elim (cases_lt i m) as (λ _. fixed m first (fixed n second a) i ≡ fixed (max m n) (fixed m first second) a i) [
      | inl below ↦ fixed-below m first (fixed n second a) i below
          ∙ sym (fixed-below (max m n) (fixed m first second) a i (omega arith) ∙ fixed-below m first second i below)
      | inr from ↦ fixed-from m first (fixed n second a) i from
          ∙ elim (cases_lt i n) as (λ _. fixed n second a i ≡ fixed (max m n) (fixed m first second) a i) [
            | inl below ↦ fixed-below n second a i below
                ∙ sym (fixed-below (max m n) (fixed m first second) a i (omega arith) ∙ fixed-from m first second i from)
            | inr past ↦ fixed-from n second a i past
                ∙ sym (fixed-from (max m n) (fixed m first second) a i (omega arith))
          ]
    ])

pub comes_same : (f g : Function) → AreSame g f → ComesFrom f g
comes_same f g same = record {
  count = 0;
  bits = λ i. false;
  same = λ a. same a ∙ ap f (fun_ext (λ i. sym (fixed-from 0 (λ k. false) a i (omega arith))));
}

pub ComesFrom-trans : (f g h : Function) → ComesFrom f g → ComesFrom g h → ComesFrom f h
ComesFrom-trans f g h fg gh = record {
  count = max fg.count gh.count;
  bits = fixed fg.count fg.bits gh.bits;
  same = λ a. gh.same a ∙ (fg.same (fixed gh.count gh.bits a)
      ∙ ap f (fixed-fixed fg.count gh.count fg.bits gh.bits a));
}

pub ComesFrom-same : (f g h : Function) → ComesFrom f g → AreSame h g → ComesFrom f h
ComesFrom-same f g h fg same = record { count = fg.count; bits = fg.bits; same = λ a. same a ∙ fg.same a }

pub ComesFrom-of_same : (f g h : Function) → AreSame f g → ComesFrom g h → ComesFrom f h
ComesFrom-of_same f g h same gh = record { count = gh.count; bits = gh.bits; same = λ a. gh.same a ∙ sym (same (fixed gh.count gh.bits a)) }

-- the number of a constant
abbrev pub constant_number : Bool → ℕ
constant_number bit = if bit then 1 else 0

pub constant_small : (bit : Bool) → constant_number bit < 2
constant_small true = omega arith
constant_small false = omega arith

pub some_constant : (n : ℕ) → n < 2 → (bit : Bool) × (n ≡ constant_number bit)
some_constant n small = elim (cases_eq n 1) [ inl e ↦ (true, e) | inr other ↦ (false, omega arith) ]

pub function-constant : (nodes : List Triple) (bit : Bool) (a : Assignment) → function_of nodes (constant_number bit) a ≡ bit
function-constant [] true a = refl
function-constant [] false a = refl
function-constant (node ∷ older) bit a =
    let small = constant_small bit in
    function-older older node (constant_number bit) a (omega arith) ∙ function-constant older bit a

pub not_other : (bit : Bool) (n : ℕ) → n < 2 → (n ≡ constant_number (not bit) → ⊥) → n ≡ constant_number bit
not_other true n small other = omega arith
not_other false n small other = omega arith

-- a number takes every bit, but for the constant of the other one
pub takes : (vars : ℕ) (nodes : List Triple) → AreOrdered vars nodes → (n : ℕ) → IsNumber nodes n → (bit : Bool)
    → (n ≡ constant_number (not bit) → ⊥) → Takes (function_of nodes n) bit
takes vars [] ordered n known bit other =
    (λ i. false, ap (λ k. function_of [] k (λ i. false)) (not_other bit n known other) ∙ function-constant [] bit (λ i. false))
takes vars (node ∷ older) ordered n known bit other =
    let by_side : (t : Bool) → ((if t then node.high else node.low) ≡ constant_number (not bit) → ⊥)
    → Takes (function_of (node ∷ older) (next_number older)) bit =
    λ t differs.
    let behind = branch_behind vars older node ordered.0.low ordered.0.high t in
    let found = takes vars older ordered.1 (if t then node.high else node.low) behind.known bit differs in
    let there : Assignment = set_at node.variable t found.0 in (
      there,
      function-newest older node there
          ∙ (ap (λ s. function_of older (if s then node.high else node.low) there) (set_at-same node.variable t found.0)
          ∙ (function-set_at vars older ordered.1 node.variable (if t then node.high else node.low) behind t found.0 ∙ found.1)),
    ) in
    elim (cases_number older node n known) [
      | inl e ↦ subst (λ (k : ℕ). Takes (function_of (node ∷ older) k) bit) (sym e)
          (elim (cases_eq node.low (constant_number (not bit))) [
            | inl low ↦ by_side true (λ high. ordered.0.different (low ∙ sym high))
            | inr low ↦ by_side false low
          ])
      | inr old ↦
          let found = takes vars older ordered.1 n old bit other in
          (found.0, function-older older node n found.0 old ∙ found.1)
    ]

pub inner_varies : (vars : ℕ) (nodes : List Triple) → AreOrdered vars nodes → (n : ℕ) → 2 ≤ n → IsNumber nodes n → Varies (function_of nodes n)
inner_varies vars nodes ordered n inner known = (
  takes vars nodes ordered n known false (λ e. omega (arith, constant_small true)),
  takes vars nodes ordered n known true (λ e. omega (arith, constant_small false)),
)

-- what comes from a number's function by fixing the first variables is the function of a number
pub stands_fixed : (vars : ℕ) (nodes : List Triple) → AreOrdered vars nodes → (n : ℕ) → IsNumber nodes n → (count : ℕ) (bits : Assignment)
    → (m : ℕ) × StandsFor nodes m (λ a. function_of nodes n (fixed count bits a))
stands_fixed vars [] ordered n known count bits = (n, record { known = known; same = λ a. refl })
stands_fixed vars (node ∷ older) ordered n known count bits =
    elim (cases_number older node n known) [
      | inl e ↦ elim (cases_lt node.variable count) [
        | inl below ↦
            let behind = branch_behind vars older node ordered.0.low ordered.0.high (bits node.variable) in
            let found = stands_fixed vars older ordered.1 (branch node bits) behind.known count bits in (
              found.0,
              record {
                known = omega (arith, found.1.known);
                same = λ a. function-older older node found.0 a found.1.known
                    ∙ (found.1.same a
                    ∙ (ap (λ t. function_of older (if t then node.high else node.low) (fixed count bits a)) (sym (fixed-below count bits a node.variable below))
                    ∙ (sym (function-newest older node (fixed count bits a))
                    ∙ ap (λ k. function_of (node ∷ older) k (fixed count bits a)) (sym e))));
              },
            )
        | inr from ↦ (
          n,
          record {
            known = known;
            same = λ a. function-agree vars (node ∷ older) ordered n known a (fixed count bits a)
                (λ i after within. sym (fixed-from count bits a i
                (omega (arith, ap (first_variable vars (node ∷ older)) e ∙ first-newest vars older node))));
          },
        )
      ]
      | inr old ↦
          let found = stands_fixed vars older ordered.1 n old count bits in (
            found.0,
            record {
              known = omega (arith, found.1.known);
              same = λ a. function-older older node found.0 a found.1.known
                  ∙ (found.1.same a ∙ sym (function-older older node n (fixed count bits a) old));
            },
          )
    ]

-- a function that varies is not that of a constant
pub held_from : (nodes : List Triple) (n : ℕ) (f : Function) → StandsFor nodes n f → Varies f → IsHeld nodes f
held_from nodes n f stands varies =
    elim (cases_lt n 2) [
      | inl small ↦
          let constant = some_constant n small in
          let all : (a : Assignment) → f a ≡ constant.0 = λ a. sym (stands.same a)
          ∙ (ap (λ k. function_of nodes k a) constant.1 ∙ function-constant nodes constant.0 a) in
          absurd (false≢true (sym varies.0.1 ∙ (all varies.0.0 ∙ (sym (all varies.1.0) ∙ varies.1.1))))
      | inr inner ↦ record { number = n; inner = inner; stands = stands }
    ]

-- a diagram holds all that comes from its functions
pub holds_all : (vars : ℕ) (nodes : List Triple) → AreOrdered vars nodes → (n : ℕ) → IsNumber nodes n → HoldsAllFrom (function_of nodes n) nodes
holds_all vars nodes ordered n known = λ g comes varies.
    let found = stands_fixed vars nodes ordered n known comes.count comes.bits in
    held_from nodes found.0 g
    (record { known = found.1.known; same = λ a. found.1.same a ∙ sym (comes.same a) }) varies

-- a constant's number stands for it
pub constant_stands : (nodes : List Triple) (bit : Bool) → StandsFor nodes (constant_number bit) (λ a. bit)
constant_stands nodes bit = record {
  known = omega (arith, constant_small bit);
  same = λ a. function-constant nodes bit a;
}

pub constant-byte : (bit : Bool) → bool_byte bit ≡ constant_number bit
constant-byte true = refl
constant-byte false = refl

constant-test : (bit : Bool) → bit ≡ nat_eq (constant_number bit) 1
constant-test true = refl
constant-test false = refl

-- a number that is no inner node's is a constant's
pub small_from : (test : Bool) (n : ℕ) → (IsTrue test ↔ (2 ≤ n)) → test ≡ false → n < 2
small_from test n means fails = elim (cases_lt n 2) [ inl small ↦ small | inr inner ↦ absurd (iff_false means fails inner) ]

pub constant_is : (nodes : List Triple) (n one : ℕ) (test : Bool) → n < 2 → one ≡ 1 → test ≡ nat_eq n one
    → (a : Assignment) → function_of nodes n a ≡ test
constant_is nodes n one test small is_one means a =
    let bit = some_constant n small in
    ap (λ k. function_of nodes k a) bit.1 ∙ (function-constant nodes bit.0 a
    ∙ (constant-test bit.0 ∙ (sym (ap (λ k. nat_eq k 1) bit.1) ∙ (ap (λ k. nat_eq n k) (sym is_one) ∙ sym means))))

-- the exclusive or of a function with itself, and with the constant false
pub xor_itself : (nodes : List Triple) (f g none : ℕ) → f ≡ g → StandsFor nodes none (λ a. false)
    → StandsFor nodes none (λ a. xor (function_of nodes f a) (function_of nodes g a))
xor_itself nodes f g none same at_none = record {
  known = at_none.known;
  same = λ a. at_none.same a ∙ (sym (xor_same (function_of nodes f a)) ∙ ap (λ k. xor (function_of nodes f a) (function_of nodes k a)) same);
}

pub xor_left : (nodes : List Triple) (f g none : ℕ) → f ≡ none → StandsFor nodes none (λ a. false) → IsNumber nodes g
    → StandsFor nodes g (λ a. xor (function_of nodes f a) (function_of nodes g a))
xor_left nodes f g none same at_none known = record {
  known = known;
  same = λ a. sym (xor_none (function_of nodes g a))
      ∙ ap (λ t. xor t (function_of nodes g a)) (sym (ap (λ k. function_of nodes k a) same ∙ at_none.same a));
}

pub xor_right : (nodes : List Triple) (f g none : ℕ) → g ≡ none → StandsFor nodes none (λ a. false) → IsNumber nodes f
    → StandsFor nodes f (λ a. xor (function_of nodes f a) (function_of nodes g a))
xor_right nodes f g none same at_none known = record {
  known = known;
  same = λ a. sym (xor_nothing (function_of nodes f a))
      ∙ ap (λ t. xor (function_of nodes f a) t) (sym (ap (λ k. function_of nodes k a) same ∙ at_none.same a));
}

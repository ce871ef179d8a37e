-- What operands ask for, through their branches at a variable.
use Rattle.std.proofs.Common.{◌≡◌, ℕ, ◌<◌, ◌≤◌, Bool, true, false, ◌&&◌, if◌then◌else◌, List, ◌⊎◌, refl, sym, ap, ap₂, ◌∙◌, subst, inl, inr, arith}
use Rattle.std.proofs.Common.{Option, Some, None, IfSome, IfNone, Result, Ok, Err, IfErr, IsErrAnd}
use Rattle.std.specs.Bool.{xor}
use Rattle.std.proofs.lemmas.Bool.{cases_lt}
use Rattle.list_facts.proofs.BitLemmas.{xor_none}
use Rattle.decision_diagram.specs.declared.memo.Operands.{Operands}
use Rattle.decision_diagram.specs.declared.node.DdFault.{DdFault}
use Rattle.decision_diagram.specs.Functions.{AreSame, ComesFrom, Function, conjunction, exclusive_or, flipped}
use Rattle.decision_diagram.specs.Diagrams.{Triple, DiagramView, IsNumber, function_of, first_variable, IsBehind, AreOrdered, IsCanonical}
use Rattle.decision_diagram.specs.Growth.{KeepsNodes, StandsFor}
use Rattle.decision_diagram.specs.inside.Flipping.{AreBehind, AreNumbers, AreUnlike, IsOneOf, IsProduct, SplitAll}
use Rattle.decision_diagram.specs.inside.Flipping.{Splits, first_asked, flipped_at, node_function, total}
use Rattle.decision_diagram.proofs.ValueLemmas.{first_most}
use Rattle.decision_diagram.proofs.DistinctLemmas.{some_at, inner_at}
use Rattle.decision_diagram.proofs.RestrictionLemmas.{ComesFrom-same}
use Rattle.decision_diagram.proofs.GrowthLemmas.{KeepsNodes-refl, function-kept, stands-kept, StandsFor-same}
use Rattle.decision_diagram.proofs.GrowthLemmas.{flipped-same, side_behind, side_comes, node_flips, constant_behind}

-- an inner node asks a variable of the diagram
pub inner_asks : (vars : ℕ) (nodes : List Triple) → AreOrdered vars nodes → (n : ℕ) → 2 ≤ n → IsNumber nodes n
    → first_variable vars nodes n < vars
inner_asks vars nodes ordered n inner known =
    let found = some_at nodes n inner known in
    let at = inner_at vars nodes ordered n found.0 found.1 in
    omega (arith, at.first, at.branches.low.behind, first_most vars nodes ordered found.0.low)

-- one of three operands is no constant, where their sum is large
pub one_asks : (vars : ℕ) (nodes : List Triple) → AreOrdered vars nodes → (o : Operands) → AreNumbers nodes o → 3 < total o
    → (v : ℕ) → v ≡ first_asked vars nodes o → v < vars
one_asks vars nodes ordered o known some v least =
    elim (cases_lt o.target 2) [
      | inl small_target ↦ elim (cases_lt o.left 2) [
        | inl small_left ↦ omega (arith, inner_asks vars nodes ordered o.right (omega arith) known.right)
        | inr inner ↦ omega (arith, inner_asks vars nodes ordered o.left inner known.left)
      ]
      | inr inner ↦ omega (arith, inner_asks vars nodes ordered o.target inner known.target)
    ]

-- an answer that is one of the operands, or a constant, asks what they ask
pub settled_behind : (vars : ℕ) (nodes : List Triple) → AreOrdered vars nodes → (o : Operands) (h : ℕ) → IsOneOf o h
    → (v : ℕ) → AreBehind vars nodes v o → IsBehind vars nodes v h
settled_behind vars nodes ordered o h one v behind =
    elim one [
      | inl e ↦ subst (λ (n : ℕ). IsBehind vars nodes v n) (sym e) behind.target
      | inr other ↦ elim other [
        | inl e ↦ subst (λ (n : ℕ). IsBehind vars nodes v n) (sym e) behind.left
        | inr another ↦ elim another [
          | inl e ↦ subst (λ (n : ℕ). IsBehind vars nodes v n) (sym e) behind.right
          | inr small ↦ constant_behind vars nodes v h (omega (arith, behind.target.behind, first_most vars nodes ordered o.target)) small
        ]
      ]
    ]

-- operands that are split one by one
pub split_all : (vars : ℕ) (nodes : List Triple) (v : ℕ) (o low high : Operands) → v ≡ first_asked vars nodes o
    → Splits vars nodes v o.target low.target high.target → Splits vars nodes v o.left low.left high.left
    → Splits vars nodes v o.right low.right high.right → SplitAll vars nodes v o low high
split_all vars nodes v o low high first target left right =
    let less : (total low < total o) × (total high < total o) =
    elim (cases_lt v (first_variable vars nodes o.target)) [
      | inl late_target ↦ elim (cases_lt v (first_variable vars nodes o.left)) [
        | inl late_left ↦
            let here = right.smaller (omega arith) in (
              omega (arith, here.0, target.low_most, left.low_most),
              omega (arith, here.1, target.high_most, left.high_most),
            )
        | inr here_left ↦
            let here = left.smaller (omega arith) in (
              omega (arith, here.0, target.low_most, right.low_most),
              omega (arith, here.1, target.high_most, right.high_most),
            )
      ]
      | inr here_target ↦
          let here = target.smaller (omega arith) in (
            omega (arith, here.0, left.low_most, right.low_most),
            omega (arith, here.1, left.high_most, right.high_most),
          )
    ] in
    record {
      low_behind = record { target = target.low_behind; left = left.low_behind; right = right.low_behind };
      high_behind = record { target = target.high_behind; left = left.high_behind; right = right.high_behind };
      low_less = less.0;
      high_less = less.1;
      same = λ a.
          let sides : (t : Bool) → function_of nodes (if t then high.target else low.target) a
          ≡ function_of nodes (if t then high.target else low.target) a = λ t. refl in
          ap₂ xor (target.same a) (ap₂ ◌&&◌ (left.same a) (right.same a))
          ∙ elim (a v) as (λ t. flipped (function_of nodes (if t then high.target else low.target)) (function_of nodes (if t then high.left else low.left))
          (function_of nodes (if t then high.right else low.right)) a ≡ flipped_at nodes (if t then high else low) a) [ true ↦ refl | false ↦ refl ];
    }

flipped-kept : (d e : DiagramView) → KeepsNodes d e → (o : Operands) → AreNumbers d.nodes o → AreSame (flipped_at e.nodes o) (flipped_at d.nodes o)
flipped-kept d e kept o known = λ a.
    flipped-same e.nodes d.nodes o o a a (function-kept d e kept o.target a known.target) (function-kept d e kept o.left a known.left)
    (function-kept d e kept o.right a known.right)

pub are_numbers : (vars : ℕ) (nodes : List Triple) (v : ℕ) (o : Operands) → AreBehind vars nodes v o → AreNumbers nodes o
are_numbers vars nodes v o behind = record { target = behind.target.known; left = behind.left.known; right = behind.right.known }

module _ (d : DiagramView) (canonical : IsCanonical d) (v : ℕ) (o low high : Operands) (split : SplitAll d.vars d.nodes v o low high) where
  -- a side, in a diagram that has grown, comes from the operands
  later_side : (e : DiagramView) → KeepsNodes d e → (t : Bool)
      → AreSame (flipped_at e.nodes (if t then high else low)) (flipped_at d.nodes (if t then high else low))
  later_side e kept t =
      flipped-kept d e kept (if t then high else low)
      (are_numbers d.vars d.nodes v (if t then high else low) (side_behind d canonical v o low high split t))

  later_comes : (e : DiagramView) → KeepsNodes d e → (t : Bool)
      → ComesFrom (flipped_at d.nodes o) (flipped_at e.nodes (if t then high else low))
  later_comes e kept t =
      ComesFrom-same (flipped_at d.nodes o) (flipped_at d.nodes (if t then high else low)) (flipped_at e.nodes (if t then high else low))
      (side_comes d canonical v o low high split t) (later_side e kept t)

  pub low_comes : ComesFrom (flipped_at d.nodes o) (flipped_at d.nodes low)
  low_comes = later_comes d (KeepsNodes-refl d) false

  pub high_comes : (e : DiagramView) → KeepsNodes d e → ComesFrom (flipped_at d.nodes o) (flipped_at e.nodes high)
  high_comes e kept = later_comes e kept true

  -- the node that is asked for in the end stands for what the operands ask for
  pub node_is_flip : (e h : DiagramView) → KeepsNodes d e → KeepsNodes e h → (at_low at_high : ℕ)
      → StandsFor e.nodes at_low (flipped_at d.nodes low) → StandsFor h.nodes at_high (flipped_at e.nodes high)
      → AreSame (node_function h.nodes (record { variable = v; low = at_low; high = at_high })) (flipped_at d.nodes o)
  node_is_flip e h kept_e kept_h at_low at_high is_low is_high =
      node_flips d canonical v o low high split h.nodes at_low at_high
      (stands-kept e h kept_h at_low (flipped_at d.nodes low) is_low)
      (StandsFor-same h.nodes at_high (flipped_at e.nodes high) (flipped_at d.nodes high) (later_side e kept_e true) is_high)

-- what holds of the error that a `?` passes on
pub refused_at : (Q : DdFault → Type 0) (r : Result ℕ DdFault) (e : DdFault) → IsErrAnd r (λ x. x ≡ e) → Q e → IfErr r Q
refused_at Q (Ok h) e at q = absurd at
refused_at Q (Err x) e at q = subst Q (sym at) q

-- ---- where no node has to be looked at

and_same : (b : Bool) → (b && b) ≡ b
and_same true = refl
and_same false = refl

pub and_true : (b : Bool) → (b && true) ≡ b
and_true true = refl
and_true false = refl

and_false : (b : Bool) → (b && false) ≡ false
and_false true = refl
and_false false = refl

pub no_left : (nodes : List Triple) (f g none : ℕ) → f ≡ none → StandsFor nodes none (λ a. false)
    → StandsFor nodes none (conjunction (function_of nodes f) (function_of nodes g))
no_left nodes f g none same at_none = record {
  known = at_none.known;
  same = λ a. at_none.same a ∙ ap (λ t. t && function_of nodes g a) (sym (ap (λ k. function_of nodes k a) same ∙ at_none.same a));
}

pub no_right : (nodes : List Triple) (f g none : ℕ) → g ≡ none → StandsFor nodes none (λ a. false)
    → StandsFor nodes none (conjunction (function_of nodes f) (function_of nodes g))
no_right nodes f g none same at_none = record {
  known = at_none.known;
  same = λ a. at_none.same a ∙ (sym (and_false (function_of nodes f a))
      ∙ ap (λ t. function_of nodes f a && t) (sym (ap (λ k. function_of nodes k a) same ∙ at_none.same a)));
}

pub and_itself : (nodes : List Triple) (f g : ℕ) → f ≡ g → IsNumber nodes f
    → StandsFor nodes f (conjunction (function_of nodes f) (function_of nodes g))
and_itself nodes f g same known = record {
  known = known;
  same = λ a. sym (and_same (function_of nodes f a)) ∙ ap (λ k. function_of nodes f a && function_of nodes k a) same;
}

pub and_always : (nodes : List Triple) (f g all : ℕ) → g ≡ all → StandsFor nodes all (λ a. true) → IsNumber nodes f
    → StandsFor nodes f (conjunction (function_of nodes f) (function_of nodes g))
and_always nodes f g all same at_all known = record {
  known = known;
  same = λ a. sym (and_true (function_of nodes f a))
      ∙ ap (λ t. function_of nodes f a && t) (sym (ap (λ k. function_of nodes k a) same ∙ at_all.same a));
}

pub always_and : (nodes : List Triple) (f g all : ℕ) → f ≡ all → StandsFor nodes all (λ a. true) → IsNumber nodes g
    → StandsFor nodes g (conjunction (function_of nodes f) (function_of nodes g))
always_and nodes f g all same at_all known = record {
  known = known;
  same = λ a. ap (λ t. t && function_of nodes g a) (sym (ap (λ k. function_of nodes k a) same ∙ at_all.same a));
}

pub some_from : (r : Option ℕ) (P Q : ℕ → Type 0) → ((h : ℕ) → P h → Q h) → IfSome r P → IfSome r Q
some_from (Some h) P Q step p = step h p
some_from None P Q step p = p

pub none_from : (r : Option ℕ) (P Q : Type 0) → (P → Q) → IfNone r P → IfNone r Q
none_from (Some h) P Q step p = p
none_from None P Q step p = step p

-- the sum of a target and a product
pub sum_stands : (nodes : List Triple) (o : Operands) (product h : ℕ)
    → StandsFor nodes product (conjunction (function_of nodes o.left) (function_of nodes o.right))
    → StandsFor nodes h (exclusive_or (function_of nodes o.target) (function_of nodes product)) → StandsFor nodes h (flipped_at nodes o)
sum_stands nodes o product h of_product of_sum =
    StandsFor-same nodes h (exclusive_or (function_of nodes o.target) (function_of nodes product)) (flipped_at nodes o)
    (λ a. ap (xor (function_of nodes o.target a)) (of_product.same a)) of_sum

pub sum_is_one : (o : Operands) (product h : ℕ) → IsProduct o.left o.right product → (h ≡ o.target) ⊎ ((h ≡ product) ⊎ (h ≡ 0)) → IsOneOf o h
sum_is_one o product h is one =
    elim one as (λ _. IsOneOf o h) [
      | inl e ↦ inl e
      | inr other ↦ elim other as (λ _. IsOneOf o h) [
        | inl e ↦ elim is as (λ _. IsOneOf o h) [
          | inl none ↦ inr (inr (inr (omega (arith, e, none))))
          | inr some ↦ elim some.2 as (λ _. IsOneOf o h) [
            | inl left ↦ inr (inl (e ∙ left))
            | inr right ↦ inr (inr (inl (e ∙ right)))
          ]
        ]
        | inr none ↦ inr (inr (inr (omega (arith, none))))
      ]
    ]

pub sum_is_large : (o : Operands) (product : ℕ) → IsProduct o.left o.right product → AreUnlike o.target product → 3 < total o
sum_is_large o product is unlike =
    let target = unlike.left in
    let some = unlike.right in
    let different = unlike.different in
    elim is as (λ _. 3 < total o) [
      | inl none ↦ absurd (omega (arith, none, some))
      | inr one ↦ elim one.2 as (λ _. 3 < total o) [
        | inl left ↦ elim (cases_lt o.target 2) as (λ _. 3 < total o) [
          | inl small ↦ elim (cases_lt product 2) as (λ _. 3 < total o) [
            | inl low ↦ absurd (different (omega (arith, small, low, target, some)))
            | inr high ↦ omega (arith, high, left, target, one.1)
          ]
          | inr large ↦ omega (arith, large, one.0, one.1)
        ]
        | inr right ↦ elim (cases_lt o.target 2) as (λ _. 3 < total o) [
          | inl small ↦ elim (cases_lt product 2) as (λ _. 3 < total o) [
            | inl low ↦ absurd (different (omega (arith, small, low, target, some)))
            | inr high ↦ omega (arith, high, right, target, one.0)
          ]
          | inr large ↦ omega (arith, large, one.0, one.1)
        ]
      ]
    ]

-- ---- the exclusive or and the conjunction as flips

pub flip_is_xor : (f g one : Function) → AreSame one (λ a. true) → AreSame (flipped f g one) (exclusive_or f g)
flip_is_xor f g one always = λ a. ap (xor (f a)) (ap (λ t. g a && t) (always a) ∙ and_true (g a))

pub flip_is_and : (none f g : Function) → AreSame none (λ a. false) → AreSame (flipped none f g) (conjunction f g)
flip_is_and none f g never = λ a. ap (λ t. xor t (f a && g a)) (never a) ∙ xor_none (f a && g a)

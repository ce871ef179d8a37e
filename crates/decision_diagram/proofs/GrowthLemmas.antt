-- What stays when nodes are added, and what a new node adds.
use Rattle.std.proofs.Common.{◌≡◌, ℕ, suc, ◌<◌, ◌≤◌, Bool, true, false, ◌&&◌, if◌then◌else◌, List, [], ◌∷◌, ◌++◌, length, length-append, append_assoc, Result}
use Rattle.std.proofs.Common.{Ok, Err, IfOk, IfErr, refl, sym, ap, ap₂, ◌∙◌, subst, inl, inr, arith}
use Rattle.std.proofs.lemmas.Bool.{cases_lt}
use Rattle.std.specs.Bool.{xor}
use Rattle.decision_diagram.specs.declared.node.DdFault.{DdFault}
use Rattle.decision_diagram.specs.declared.node.DdFault.TheVariants.{Full, Memory}
use Rattle.decision_diagram.specs.declared.memo.Operands.{Operands}
use Rattle.decision_diagram.specs.Functions.{Assignment, Function, AreSame, Takes, fixed, ComesFrom}
use Rattle.decision_diagram.specs.Diagrams.{Triple, DiagramView, IsNumber, next_number, branch, function_of, first_variable, IsBehind, MayFollow, AreOrdered}
use Rattle.decision_diagram.specs.Diagrams.{IsCanonical}
use Rattle.decision_diagram.specs.Growth.{Computes, KeepsNodes, KeepsFunctions, StandsFor, HoldsAllFrom, IsFullFor, MayRefuse}
use Rattle.decision_diagram.specs.inside.Flipping.{AreBehind, Grows, SplitAll, Splits, flipped_at, node_function}
use Rattle.decision_diagram.proofs.ValueLemmas.{branch_behind, function-newest, function-older, first-older, function-agree}
use Rattle.decision_diagram.proofs.DistinctLemmas.{distinct_functions, new_function, first-constant}
use Rattle.decision_diagram.proofs.RestrictionLemmas.{fixed-below, fixed-from, comes_same, ComesFrom-trans, ComesFrom-same, inner_varies, holds_all}

pub function-added : (added older : List Triple) (n : ℕ) (a : Assignment) → IsNumber older n
    → function_of (added ++ older) n a ≡ function_of older n a
function-added [] older n a known = refl
function-added (node ∷ added) older n a known =
    function-older (added ++ older) node n a (omega (arith, length-append added older)) ∙ function-added added older n a known

pub first-added : (vars : ℕ) (added older : List Triple) (n : ℕ) → IsNumber older n
    → first_variable vars (added ++ older) n ≡ first_variable vars older n
first-added vars [] older n known = refl
first-added vars (node ∷ added) older n known =
    first-older vars (added ++ older) node n (omega (arith, length-append added older)) ∙ first-added vars added older n known

ordered_behind : (vars : ℕ) (newer nodes : List Triple) → AreOrdered vars (newer ++ nodes) → AreOrdered vars nodes
ordered_behind vars [] nodes ordered = ordered
ordered_behind vars (x ∷ newer) nodes ordered = ordered_behind vars newer nodes ordered.1

-- the function of a node is that of the number to which it goes
pub nodes_go_on : (vars : ℕ) (newer older : List Triple) (node : Triple) (a : Assignment) → AreOrdered vars (newer ++ node ∷ older)
    → function_of (newer ++ node ∷ older) (next_number older) a ≡ function_of (newer ++ node ∷ older) (branch node a) a
nodes_go_on vars newer older node a ordered =
    let here : AreOrdered vars (node ∷ older) = ordered_behind vars newer (node ∷ older) ordered in
    let known : IsNumber older (branch node a) = (branch_behind vars older node here.0.low here.0.high (a node.variable)).known in
    function-added newer (node ∷ older) (next_number older) a (omega arith)
    ∙ (function-newest older node a
    ∙ (sym (function-older older node (branch node a) a known) ∙ sym (function-added newer (node ∷ older) (branch node a) a (omega (arith, known)))))

-- a number from before is a number
pub known-kept : (old now : DiagramView) → KeepsNodes old now → (n : ℕ) → IsNumber old.nodes n → IsNumber now.nodes n
known-kept old now kept n known = omega (arith, ap length kept.nodes, length-append kept.added old.nodes)

pub function-kept : (old now : DiagramView) → KeepsNodes old now → (n : ℕ) (a : Assignment) → IsNumber old.nodes n
    → function_of now.nodes n a ≡ function_of old.nodes n a
function-kept old now kept n a known =
    ap (λ nodes. function_of nodes n a) kept.nodes ∙ function-added kept.added old.nodes n a known

pub keeps_functions : (old now : DiagramView) → KeepsNodes old now → KeepsFunctions old.nodes now.nodes
keeps_functions old now kept = λ n known. (known-kept old now kept n known, λ a. function-kept old now kept n a known)

pub behind-kept : (old now : DiagramView) → KeepsNodes old now → (v n : ℕ) → IsBehind old.vars old.nodes v n → IsBehind now.vars now.nodes v n
behind-kept old now kept v n behind = record {
  known = known-kept old now kept n behind.known;
  behind = subst (λ (k : ℕ). v < k)
      (sym (first-added old.vars kept.added old.nodes n behind.known)
      ∙ ap₂ (λ (vars : ℕ) (nodes : List Triple). first_variable vars nodes n) (sym kept.vars) (sym kept.nodes))
      behind.behind;
}

pub stands-kept : (old now : DiagramView) → KeepsNodes old now → (n : ℕ) (f : Function) → StandsFor old.nodes n f → StandsFor now.nodes n f
stands-kept old now kept n f stands = record {
  known = known-kept old now kept n stands.known;
  same = λ a. function-kept old now kept n a stands.known ∙ stands.same a;
}

pub KeepsNodes-refl : (d : DiagramView) → KeepsNodes d d
KeepsNodes-refl d = record { vars = refl; limit = refl; added = []; nodes = refl }

pub KeepsNodes-trans : (d e h : DiagramView) → KeepsNodes d e → KeepsNodes e h → KeepsNodes d h
KeepsNodes-trans d e h first second = record {
  vars = second.vars ∙ first.vars;
  limit = second.limit ∙ first.limit;
  added = second.added ++ first.added;
  nodes = second.nodes ∙ (ap (λ nodes. second.added ++ nodes) first.nodes ∙ sym (append_assoc second.added first.added d.nodes));
}

-- nothing was added
pub Grows-refl : (f : Function) (d : DiagramView) → IsCanonical d → Grows f d d
Grows-refl f d canonical = record {
  canonical = canonical;
  kept = KeepsNodes-refl d;
  added = λ n from below. absurd (omega arith);
}

pub Grows-trans : (f : Function) (d e h : DiagramView) → Grows f d e → Grows f e h → Grows f d h
Grows-trans f d e h first second = record {
  canonical = second.canonical;
  kept = KeepsNodes-trans d e h first.kept second.kept;
  added = λ n from below. elim (cases_lt n (next_number e.nodes)) [
    | inl old ↦ ComesFrom-same f (function_of e.nodes n) (function_of h.nodes n) (first.added n from old)
        (λ a. function-kept e h second.kept n a old)
    | inr new ↦ second.added n new below
  ];
}

pub Grows-from : (f g : Function) (d e : DiagramView) → ComesFrom f g → Grows g d e → Grows f d e
Grows-from f g d e comes grows = record {
  canonical = grows.canonical;
  kept = grows.kept;
  added = λ n from below. ComesFrom-trans f g (function_of e.nodes n) comes (grows.added n from below);
}

pub MayRefuse-from : (f g : Function) (d : DiagramView) → ComesFrom f g → (fault : DdFault) → MayRefuse g d fault → MayRefuse f d fault
MayRefuse-from f g d comes (Full nodes) cause = record {
  at_limit = cause.at_limit;
  full = cause.full;
  needs = record {
    function = cause.needs.function;
    comes = ComesFrom-trans f g cause.needs.function comes cause.needs.comes;
    varies = cause.needs.varies;
    missing = cause.needs.missing;
  };
}
MayRefuse-from f g d comes (Memory _) cause = cause

-- the node as the newest one
abbrev pub with_node : DiagramView → Triple → DiagramView
with_node d node = record d { nodes = node ∷ d.nodes }

pub grows_by_node : (d : DiagramView) (node : Triple) → IsCanonical d → MayFollow d.vars d.nodes node → suc (length d.nodes) ≤ d.limit
    → Grows (node_function d.nodes node) d (with_node d node)
grows_by_node d node canonical follows room = record {
  canonical = record { ordered = (follows, canonical.ordered); within = room };
  kept = record { vars = refl; limit = refl; added = node ∷ []; nodes = refl };
  added = λ n from below. comes_same (node_function d.nodes node) (function_of (node ∷ d.nodes) n)
      (λ a.
      let e : n ≡ next_number d.nodes = omega arith in
      ap (λ k. function_of (node ∷ d.nodes) k a) e ∙ function-newest d.nodes node a);
}

pub newest_stands : (older : List Triple) (node : Triple) → StandsFor (node ∷ older) (next_number older) (node_function older node)
newest_stands older node = record { known = omega arith; same = λ a. function-newest older node a }

Takes-same : (f g : Function) (bit : Bool) → AreSame f g → Takes f bit → Takes g bit
Takes-same f g bit same found = (found.0, sym (same found.0) ∙ found.1)

pub full_for_node : (d : DiagramView) (node : Triple) → IsCanonical d → MayFollow d.vars d.nodes node → length d.nodes ≡ d.limit
    → IsFullFor (node_function d.nodes node) d d.limit
full_for_node d node canonical follows full =
    let after : AreOrdered d.vars (node ∷ d.nodes) = (follows, canonical.ordered) in
    let newest = next_number d.nodes in
    let same : AreSame (function_of (node ∷ d.nodes) newest) (node_function d.nodes node) = λ a. function-newest d.nodes node a in
    let varies = inner_varies d.vars (node ∷ d.nodes) after newest (omega arith) (omega arith) in
    record {
      at_limit = refl;
      full = full;
      needs = record {
        function = node_function d.nodes node;
        comes = comes_same (node_function d.nodes node) (node_function d.nodes node) (λ a. refl);
        varies = (
          Takes-same (function_of (node ∷ d.nodes) newest) (node_function d.nodes node) false same varies.0,
          Takes-same (function_of (node ∷ d.nodes) newest) (node_function d.nodes node) true same varies.1,
        );
        missing = λ held. new_function d.vars d.nodes node follows canonical.ordered
            (distinct_functions d.vars d.nodes canonical.ordered) held.number held.stands.known
            (λ a. same a ∙ sym (held.stands.same a));
      };
    }

-- operands with equal parts
pub flipped-same : (nodes others : List Triple) (o p : Operands) (a b : Assignment) → function_of nodes o.target a ≡ function_of others p.target b
    → function_of nodes o.left a ≡ function_of others p.left b → function_of nodes o.right a ≡ function_of others p.right b
    → flipped_at nodes o a ≡ flipped_at others p b
flipped-same nodes others o p a b target left right = ap₂ xor target (ap₂ ◌&&◌ left right)

-- operands do not see variables before those that they ask
flipped-agree : (vars : ℕ) (nodes : List Triple) → AreOrdered vars nodes → (v : ℕ) (o : Operands) → AreBehind vars nodes v o → (a b : Assignment)
    → ((i : ℕ) → v < i → i < vars → a i ≡ b i) → flipped_at nodes o a ≡ flipped_at nodes o b
flipped-agree vars nodes ordered v o behind a b agree =
    flipped-same nodes nodes o o a b
    (function-agree vars nodes ordered o.target behind.target.known a b (λ i from. agree i (omega (arith, behind.target.behind))))
    (function-agree vars nodes ordered o.left behind.left.known a b (λ i from. agree i (omega (arith, behind.left.behind))))
    (function-agree vars nodes ordered o.right behind.right.known a b (λ i from. agree i (omega (arith, behind.right.behind))))

-- Operands, and where they go at a variable.
module _ (d : DiagramView) (canonical : IsCanonical d) (v : ℕ) (o low high : Operands) (split : SplitAll d.vars d.nodes v o low high) where
  pub side_behind : (t : Bool) → AreBehind d.vars d.nodes v (if t then high else low)
  side_behind true = split.high_behind
  side_behind false = split.low_behind

  -- a side comes from the operands by fixing all variables up to the one at which they go apart
  pub side_comes : (t : Bool) → ComesFrom (flipped_at d.nodes o) (flipped_at d.nodes (if t then high else low))
  side_comes t = record {
    count = suc v;
    bits = λ i. t;
    same = λ a.
        let there : Assignment = fixed (suc v) (λ i. t) a in
        flipped-agree d.vars d.nodes canonical.ordered v (if t then high else low) (side_behind t) a there
        (λ i from below. sym (fixed-from (suc v) (λ k. t) a i (omega (arith, from))))
        ∙ (ap (λ s. flipped_at d.nodes (if s then high else low) there) (sym (fixed-below (suc v) (λ k. t) a v (omega arith)))
        ∙ sym (split.same there));
  }

  pub node_flips : (nodes : List Triple) (at_low at_high : ℕ) → StandsFor nodes at_low (flipped_at d.nodes low)
      → StandsFor nodes at_high (flipped_at d.nodes high)
      → AreSame (node_function nodes (record { variable = v; low = at_low; high = at_high })) (flipped_at d.nodes o)
  node_flips nodes at_low at_high is_low is_high = λ a.
      let sides : (t : Bool) → function_of nodes (if t then at_high else at_low) a ≡ flipped_at d.nodes (if t then high else low) a =
      λ t. elim t as (λ s. function_of nodes (if s then at_high else at_low) a ≡ flipped_at d.nodes (if s then high else low) a)
      [ true ↦ is_high.same a | false ↦ is_low.same a ] in
      sides (a v) ∙ sym (split.same a)

pub StandsFor-same : (nodes : List Triple) (n : ℕ) (f g : Function) → AreSame f g → StandsFor nodes n f → StandsFor nodes n g
StandsFor-same nodes n f g same stands = record { known = stands.known; same = λ a. stands.same a ∙ same a }

-- a node that goes to one number at both bits
pub one_side : (nodes : List Triple) (v low high : ℕ) → low ≡ high → IsNumber nodes low
    → StandsFor nodes low (node_function nodes (record { variable = v; low = low; high = high }))
one_side nodes v low high same known = record {
  known = known;
  same = λ a. elim (a v) as (λ t. function_of nodes low a ≡ function_of nodes (if t then high else low) a)
      [ true ↦ ap (λ n. function_of nodes n a) same | false ↦ refl ];
}

-- a number that asks only later variables goes to itself
pub splits_self : (vars : ℕ) (nodes : List Triple) (v n : ℕ) → IsBehind vars nodes v n → Splits vars nodes v n n n
splits_self vars nodes v n behind = record {
  low_behind = behind;
  high_behind = behind;
  low_most = omega arith;
  high_most = omega arith;
  smaller = λ e. absurd (omega (arith, behind.behind));
  same = λ a. elim (a v) as (λ t. function_of nodes n a ≡ function_of nodes (if t then n else n) a) [ true ↦ refl | false ↦ refl ];
}

-- a constant asks no variable
pub constant_behind : (vars : ℕ) (nodes : List Triple) (v n : ℕ) → v < vars → n < 2 → IsBehind vars nodes v n
constant_behind vars nodes v n below small = record {
  known = omega arith;
  behind = omega (arith, first-constant vars nodes n small);
}

-- the node whose branches are the constants is its variable
pub input_function : (nodes : List Triple) (v low high : ℕ) → StandsFor nodes low (λ a. false) → StandsFor nodes high (λ a. true)
    → AreSame (node_function nodes (record { variable = v; low = low; high = high })) (λ a. a v)
input_function nodes v low high at_low at_high = λ a.
    let sides : (t : Bool) → function_of nodes (if t then high else low) a ≡ t = λ t.
    elim t as (λ s. function_of nodes (if s then high else low) a ≡ s) [ true ↦ at_high.same a | false ↦ at_low.same a ] in
    sides (a v)

pub Grows-same : (f g : Function) (d e : DiagramView) → AreSame g f → Grows g d e → Grows f d e
Grows-same f g d e same grows = Grows-from f g d e (comes_same f g same) grows

pub MayRefuse-same : (f g : Function) (d : DiagramView) → AreSame g f → (fault : DdFault) → MayRefuse g d fault → MayRefuse f d fault
MayRefuse-same f g d same fault cause = MayRefuse-from f g d (comes_same f g same) fault cause

-- a result weakened on both sides
pub ok_from : (r : Result ℕ DdFault) (P Q : ℕ → Type 0) → ((h : ℕ) → P h → Q h) → IfOk r P → IfOk r Q
ok_from (Ok h) P Q step p = step h p
ok_from (Err e) P Q step p = p

pub err_from : (r : Result ℕ DdFault) (P Q : DdFault → Type 0) → ((e : DdFault) → P e → Q e) → IfErr r P → IfErr r Q
err_from (Ok h) P Q step p = p
err_from (Err e) P Q step p = step e p

-- a diagram holds what comes from a number that stands for something
pub held_of : (d : DiagramView) (f : Function) (r : Result ℕ DdFault) → IsCanonical d → IfOk r (λ h. StandsFor d.nodes h f)
    → IfOk r (λ h. HoldsAllFrom (function_of d.nodes h) d.nodes)
held_of d f r canonical ok = ok_from r (λ h. StandsFor d.nodes h f) (λ h. HoldsAllFrom (function_of d.nodes h) d.nodes)
    (λ h stands. holds_all d.vars d.nodes canonical.ordered h stands.known) ok

-- a call that grew the diagram as it was asked computes what it was asked for
pub computes : (f : Function) (old now : DiagramView) (r : Result ℕ DdFault) → Grows f old now → IfOk r (λ h. StandsFor now.nodes h f)
    → IfErr r (MayRefuse f now) → Computes f old now r
computes f old now r grows answer refused = record {
  canonical = grows.canonical;
  kept = grows.kept;
  earlier = keeps_functions old now grows.kept;
  added = grows.added;
  answer = answer;
  held = held_of now f r grows.canonical answer;
  refused = refused;
}

-- it computes each function that is the same
pub computes_same : (f g : Function) (old now : DiagramView) (r : Result ℕ DdFault) → AreSame g f → Computes g old now r → Computes f old now r
computes_same f g old now r same made =
    computes f old now r
    (Grows-same f g old now same (record { canonical = made.canonical; kept = made.kept; added = made.added }))
    (ok_from r (λ h. StandsFor now.nodes h g) (λ h. StandsFor now.nodes h f) (λ h. StandsFor-same now.nodes h g f same) made.answer)
    (err_from r (MayRefuse g now) (MayRefuse f now) (MayRefuse-same f g now same) made.refused)

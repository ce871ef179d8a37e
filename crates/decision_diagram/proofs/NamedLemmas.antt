-- The inner nodes of a diagram as members of a set of named functions, and how many members there are.
use Rattle.std.proofs.Common.{◌≡◌, ℕ, zero, suc, ◌+◌, ◌<◌, ◌≤◌, inl, inr, List, [], ◌∷◌, length, refl, sym, ap, ◌∙◌, subst, arith}
use Rattle.std.specs.List.{AllByRecursion}
use Rattle.std.proofs.lemmas.Bool.{cases_lt, cases_eq}
use Rattle.list_facts.specs.Lists.{AnyByRecursion, AreApart}
use Rattle.list_facts.proofs.AllLemmas.{AllByRecursion-weaker}
use Rattle.list_facts.proofs.AmongLemmas.{any_of, some_of}
use Rattle.decision_diagram.specs.Diagrams.{DiagramView, Triple, IsCanonical, IsNumber, next_number, function_of}
use Rattle.decision_diagram.specs.Functions.{Function, AreSame, ComesFrom, Varies}
use Rattle.decision_diagram.specs.Growth.{KeepsNodes, AddsOnlyFrom, IsFullFor, IsHeld}
use Rattle.decision_diagram.proofs.DistinctLemmas.{distinct_functions}
use Rattle.decision_diagram.proofs.GrowthLemmas.{function-kept}
use Rattle.decision_diagram.proofs.RestrictionLemmas.{inner_varies}

-- some member is this function
pub record IsNamed {F : Type 0} (function : F → Function) (IsMember : F → Type 0) (f : Function) : Type 0 where
  pub name : F
  pub member : IsMember name
  pub same : AreSame f (function name)

-- each inner node stands for a member
pub record HoldsNamed {F : Type 0} (function : F → Function) (IsMember : F → Type 0) (d : DiagramView) : Type 0 where
  pub canonical : IsCanonical d
  pub members : (n : ℕ) → 2 ≤ n → IsNumber d.nodes n → IsNamed function IsMember (function_of d.nodes n)

-- what comes from a function and is not constant is a member
pub record NamesAllFrom {F : Type 0} (function : F → Function) (IsMember : F → Type 0) (f : Function) : Type 0 where
  pub each : (g : Function) → ComesFrom f g → Varies g → IsNamed function IsMember g

-- ---- what calls leave

-- a diagram with no inner node
pub none_named : {F : Type 0} (function : F → Function) (IsMember : F → Type 0) (d : DiagramView) → IsCanonical d → d.nodes ≡ []
    → HoldsNamed function IsMember d
none_named function IsMember d canonical empty = record {
  canonical = canonical;
  members = λ n inner known. absurd (omega (arith, inner, known, ap length empty));
}

-- a call that was asked for a function
pub more_named : {F : Type 0} (function : F → Function) (IsMember : F → Type 0) (f : Function) (old new : DiagramView)
    → HoldsNamed function IsMember old → NamesAllFrom function IsMember f → IsCanonical new → KeepsNodes old new
    → AddsOnlyFrom f old.nodes new.nodes → HoldsNamed function IsMember new
more_named function IsMember f old new holds named canonical kept from = record {
  canonical = canonical;
  members = λ n inner known. elim (cases_lt n (next_number old.nodes)) as (λ _. IsNamed function IsMember (function_of new.nodes n)) [
    | inl before ↦
        let node = holds.members n inner before in
        record { name = node.name; member = node.member; same = λ a. function-kept old new kept n a before ∙ node.same a }
    | inr later ↦ named.each (function_of new.nodes n) (from n later known) (inner_varies new.vars new.nodes canonical.ordered n inner known)
  ];
}

-- ---- the nodes as a list of members

-- an inner node below this number stands for the function
record IsOfNode (nodes : List Triple) (next : ℕ) (f : Function) : Type 0 where
  number : ℕ
  inner : 2 ≤ number
  below : number < next
  same : AreSame (function_of nodes number) f

record AreListed {F : Type 0} (function : F → Function) (IsMember : F → Type 0) (Same : F → F → Type 0) (nodes : List Triple) (count : ℕ)
    : Type 0 where
  listed : List F
  size : length listed ≡ count
  are : AllByRecursion IsMember listed
  apart : AreApart Same listed
  from : AllByRecursion (λ f. IsOfNode nodes (2 + count) (function f)) listed
  all : (n : ℕ) → 2 ≤ n → n < 2 + count → AnyByRecursion (λ f. AreSame (function_of nodes n) (function f)) listed

of_more : (nodes : List Triple) (k : ℕ) (f : Function) → IsOfNode nodes (2 + k) f → IsOfNode nodes (2 + suc k) f
of_more nodes k f of = record { number = of.number; inner = of.inner; below = omega (arith, of.below); same = of.same }

nodes_listed : {F : Type 0} (function : F → Function) (IsMember : F → Type 0) (Same : F → F → Type 0)
    → ((f g : F) → Same f g → AreSame (function f) (function g)) → (d : DiagramView) → HoldsNamed function IsMember d
    → (k : ℕ) → k ≤ length d.nodes → AreListed function IsMember Same d.nodes k
nodes_listed function IsMember Same back d holds zero le = record {
  listed = [];
  size = refl;
  are = tt;
  apart = tt;
  from = tt;
  all = λ n inner below. absurd (omega (arith, inner, below));
}
nodes_listed {F = F} function IsMember Same back d holds (suc k) le =
    let rest = nodes_listed function IsMember Same back d holds k (omega (arith, le)) in
    let n : ℕ = 2 + k in
    let known : IsNumber d.nodes n = omega (arith, le) in
    let node = holds.members n (omega arith) known in
    let f : F = node.name in
    let alone : (g : F) → IsOfNode d.nodes (2 + k) (function g) → ¬ Same f g = λ g of same.
    let one : n ≡ of.number = distinct_functions d.vars d.nodes holds.canonical.ordered n of.number known (omega (arith, of.below, le))
    (λ a. node.same a ∙ back f g same a ∙ sym (of.same a)) in
    absurd (omega (arith, one, of.below)) in
    record {
      listed = f ∷ rest.listed;
      size = omega (arith, rest.size);
      are = (node.member, rest.are);
      apart = (
        AllByRecursion-weaker (λ g. IsOfNode d.nodes (2 + k) (function g)) (λ g. ¬ Same f g) alone rest.listed rest.from,
        rest.apart,
      );
      from = (
        record { number = n; inner = omega arith; below = omega arith; same = node.same },
        AllByRecursion-weaker (λ g. IsOfNode d.nodes (2 + k) (function g)) (λ g. IsOfNode d.nodes (2 + suc k) (function g))
            (λ g. of_more d.nodes k (function g)) rest.listed rest.from,
      );
      all = λ m inner below. elim (cases_eq m n) as (λ _. AnyByRecursion (λ g. AreSame (function_of d.nodes m) (function g)) (f ∷ rest.listed)) [
        | inl e ↦ inl (subst (λ (z : ℕ). AreSame (function_of d.nodes z) (function f)) (sym e) node.same)
        | inr other ↦ inr (rest.all m inner (let differ : ¬ (m ≡ n) = other in omega arith))
      ];
    }

-- ---- how many members

-- every member is one of at most so many
pub record AreAtMost {F : Type 0} (IsMember : F → Type 0) (Same : F → F → Type 0) (limit : ℕ) : Type 0 where
  pub listed : List F
  pub few : length listed ≤ limit
  pub all : (f : F) → IsMember f → AnyByRecursion (Same f) listed

-- members, so many and no two the same
pub record AreMany {F : Type 0} (IsMember : F → Type 0) (Same : F → F → Type 0) (count : ℕ) : Type 0 where
  pub members : List F
  pub are : AllByRecursion IsMember members
  pub apart : AreApart Same members
  pub many : length members ≡ count

-- a diagram that holds all members bounds them
pub at_most : {F : Type 0} (function : F → Function) (IsMember : F → Type 0) (Same : F → F → Type 0)
    → ((f g : F) → Same f g → AreSame (function f) (function g)) → ((f g : F) → AreSame (function f) (function g) → Same f g)
    → (d : DiagramView) → HoldsNamed function IsMember d → ((f : F) → IsMember f → IsHeld d.nodes (function f))
    → AreAtMost IsMember Same d.limit
at_most function IsMember Same back forth d holds held =
    let nodes = nodes_listed function IsMember Same back d holds (length d.nodes) (omega arith) in
    record {
      listed = nodes.listed;
      few = omega (arith, nodes.size, holds.canonical.within);
      all = λ f member.
          let node : IsHeld d.nodes (function f) = held f member in
          let found = some_of (λ g. AreSame (function_of d.nodes node.number) (function g)) nodes.listed
          (nodes.all node.number node.inner node.stands.known) in
          any_of (Same f) found.0 nodes.listed found.1 (forth f found.0 (λ a. sym (node.stands.same a) ∙ found.2 a));
    }

-- a full diagram that needs one more node for a function bounds them from below
pub one_more : {F : Type 0} (function : F → Function) (IsMember : F → Type 0) (Same : F → F → Type 0)
    → ((f g : F) → Same f g → AreSame (function f) (function g)) → (d : DiagramView) → HoldsNamed function IsMember d
    → (f : Function) → NamesAllFrom function IsMember f → (count : ℕ) → IsFullFor f d count → AreMany IsMember Same (d.limit + 1)
one_more {F = F} function IsMember Same back d holds f named count full =
    let nodes = nodes_listed function IsMember Same back d holds (length d.nodes) (omega arith) in
    let new = named.each full.needs.function full.needs.comes full.needs.varies in
    let alone : (g : F) → IsOfNode d.nodes (2 + length d.nodes) (function g) → ¬ Same new.name g = λ g of one.
    full.needs.missing (record {
      number = of.number;
      inner = of.inner;
      stands = record { known = of.below; same = λ a. of.same a ∙ sym (back new.name g one a) ∙ sym (new.same a) };
    }) in
    record {
      members = new.name ∷ nodes.listed;
      are = (new.member, nodes.are);
      apart = (
        AllByRecursion-weaker (λ g. IsOfNode d.nodes (2 + length d.nodes) (function g)) (λ g. ¬ Same new.name g) alone nodes.listed nodes.from,
        nodes.apart,
      );
      many = omega (arith, nodes.size, full.full);
    }

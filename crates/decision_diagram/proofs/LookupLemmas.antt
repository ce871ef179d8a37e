-- Nodes in a hash set: where one is found, and that a new one goes last.
use Rattle.std.proofs.Common.{◌≡◌, ℕ, ◌-◌, Bool, true, false, ◌&&◌, nat_eq, List, [], ◌∷◌, ◌++◌, length, reverse, get_or, slice_get, position, Contains}
use Rattle.std.proofs.Common.{inl, inr, Option, Some, None, MatchOption, if◌then◌else◌, refl, sym, ap, ◌∙◌, arith, eqb-true}
use Rattle.std.specs.List.{list_any}
use Rattle.std.specs.Option.{is_some}
use Rattle.std.proofs.lemmas.Bool.{cases_Bool, eq-eqb, true≢false}
use Rattle.std.proofs.lemmas.List.{get_or-reverse, length-reverse}
use Rattle.std.proofs.lemmas.List.Folds.{list_any_at}
use Rattle.std.proofs.lemmas.List.Quantifiers.{position-Some}
use Rattle.std.proofs.lemmas.Map.Views.{Contains-from_any}
use Rattle.std.proofs.lemmas.Option.{slice_get-get_or}
use Rattle.indexmap.specs.IndexSet.{insert_key}
use Rattle.decision_diagram.specs.Diagrams.{Triple}
use Rattle.decision_diagram.proofs.DistinctLemmas.{triple-same}

-- how the code compares nodes
abbrev pub same_node : Triple → Triple → Bool
same_node a b = nat_eq a.variable b.variable && (nat_eq a.low b.low && nat_eq a.high b.high)

pub both_true : (x y : Bool) → (x && y) ≡ true → (x ≡ true) × (y ≡ true)
both_true true y e = (refl, e)
both_true false y e = absurd (true≢false (sym e))

pub same_node-equal : (a b : Triple) → same_node a b ≡ true → a ≡ b
same_node-equal a b e =
    let outer = both_true (nat_eq a.variable b.variable) (nat_eq a.low b.low && nat_eq a.high b.high) e in
    let inner = both_true (nat_eq a.low b.low) (nat_eq a.high b.high) outer.1 in
    triple-same a b (eqb-true a.variable b.variable outer.0) (eqb-true a.low b.low inner.0) (eqb-true a.high b.high inner.1)

pub same_node-itself : (a : Triple) → same_node a a ≡ true
same_node-itself a =
    rw (eq-eqb a.variable a.variable refl) (rw (eq-eqb a.low a.low refl) (eq-eqb a.high a.high refl))

contained_is_any : (keys : List Triple) (node : Triple) → Contains keys node → list_any (same_node node) keys ≡ true
contained_is_any keys node at =
    list_any_at (same_node node) keys at.0 node at.1 (ap (same_node node) at.2 ∙ same_node-itself node)

pub found_place : (keys : List Triple) (node : Triple) (r : Option ℕ) → r ≡ position (same_node node) keys
    → is_some r ≡ list_any (same_node node) keys
    → MatchOption r (Contains keys node → ⊥) (λ place. slice_get keys place ≡ Some node)
found_place keys node None at any = λ contained. true≢false (sym (contained_is_any keys node contained) ∙ sym any)
found_place keys node (Some place) at any =
    let here = position-Some (same_node node) keys place node (sym at) in
    slice_get-get_or keys place node here.0 ∙ ap Some (sym (same_node-equal node (get_or keys place node) here.1))

pub contained_in_reverse : (keys : List Triple) (node : Triple) → Contains keys node → Contains (reverse keys) node
contained_in_reverse keys node at =
    let k : ℕ = length keys - 1 - at.0 in
    let back : length keys - 1 - k ≡ at.0 = omega (arith, at.1) in (
      k,
      omega (arith, at.1, length-reverse keys),
      get_or-reverse keys k node (omega (arith, at.1)) ∙ (ap (λ i. get_or keys i node) back ∙ at.2),
    )

pub new_goes_last : (keys : List Triple) (node : Triple) → (Contains (reverse keys) node → ⊥)
    → insert_key same_node keys node ≡ keys ++ node ∷ []
new_goes_last keys node missing =
    elim (cases_Bool (list_any (same_node node) keys)) [
      | inl there ↦ absurd (missing (contained_in_reverse keys node (Contains-from_any same_node-equal node keys there)))
      | inr none ↦ ap (λ b. if b then keys else keys ++ node ∷ []) none
    ]

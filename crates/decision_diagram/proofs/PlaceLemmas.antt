-- The node of a number, from the list of nodes in the order in which they were made.
use Rattle.std.proofs.Common.{◌≡◌, ℕ, zero, suc, ◌+◌, ◌-◌, ◌<◌, List, [], ◌∷◌, ◌++◌, length, reverse, get_or, slice_get, Some, sym, ap, ◌∙◌, subst, inl, inr}
use Rattle.std.proofs.Common.{arith, ◌≢◌, Contains}
use Rattle.std.proofs.lemmas.List.{get_or-reverse, length-reverse, reverse-append, reverse-reverse}
use Rattle.std.proofs.lemmas.Option.{slice_get_within, get_or_from_slice_get}
use Rattle.decision_diagram.specs.Functions.{Function}
use Rattle.decision_diagram.specs.Diagrams.{Triple, DiagramView, IsBehind, next_number, first_variable, MayFollow, AreOrdered, IsCanonical}
use Rattle.decision_diagram.specs.Growth.{StandsFor, IsFullFor}
use Rattle.decision_diagram.specs.inside.Flipping.{Grows, IsInner, node_function}
use Rattle.decision_diagram.proofs.DistinctLemmas.{IsAt, inner_at}
use Rattle.decision_diagram.proofs.LookupLemmas.{contained_in_reverse}
use Rattle.decision_diagram.proofs.ValueLemmas.{first-newest}
use Rattle.decision_diagram.proofs.GrowthLemmas.{Grows-refl, with_node, newest_stands, grows_by_node, full_for_node}

at_index : (nodes : List Triple) (n k : ℕ) (node : Triple) → n + k ≡ suc (length nodes) → k < length nodes
    → get_or nodes k node ≡ node → IsAt nodes n node
at_index [] n k node sum below same = absurd (omega arith)
at_index (newest ∷ older) n zero node sum below same = inl (omega arith, same)
at_index (newest ∷ older) n (suc k) node sum below same = inr (at_index older n k node (omega arith) (omega arith) same)

pub inner_at_place : (vars : ℕ) (items : List Triple) (place : ℕ) (node : Triple) → AreOrdered vars (reverse items)
    → place < length items → get_or items place node ≡ node → IsInner vars (reverse items) (place + 2) node
inner_at_place vars items place node ordered below same =
    let k : ℕ = length items - 1 - place in
    let e : length items - 1 - k ≡ place = omega arith in
    inner_at vars (reverse items) ordered (place + 2) node
    (at_index (reverse items) (place + 2) k node
    (omega (arith, length-reverse items))
    (omega (arith, length-reverse items))
    (get_or-reverse items k node (omega arith) ∙ (ap (λ i. get_or items i node) e ∙ same)))

-- A new node at the end of the items, seen from the diagram.
module _ (d : DiagramView) (vars limit : ℕ) (items : List Triple) where
  pub push_grows : (after : List Triple) (node : Triple)
      → record { vars = vars; limit = limit; nodes = reverse items } ≡ d
      → IsCanonical (record { vars = vars; limit = limit; nodes = reverse items })
      → MayFollow d.vars d.nodes node → (length items ≡ limit → ⊥) → after ≡ items ++ node ∷ []
      → Grows (node_function d.nodes node) d (record { vars = vars; limit = limit; nodes = reverse after })
  push_grows after node view canonical follows room pushed =
      let inside : DiagramView = record { vars = vars; limit = limit; nodes = reverse items } in
      let follows_inside = subst (λ (e : DiagramView). MayFollow e.vars e.nodes node) (sym view) follows in
      let here : Grows (node_function (reverse items) node) inside (with_node inside node) =
      grows_by_node inside node canonical follows_inside (omega (arith, canonical.within, length-reverse items)) in
      let e : node ∷ reverse items ≡ reverse after = sym (ap reverse pushed ∙ reverse-append items (node ∷ [])) in
      subst (λ (e : DiagramView). Grows (node_function e.nodes node) e (record { vars = vars; limit = limit; nodes = reverse after })) view
      (subst (λ (nodes : List Triple). Grows (node_function (reverse items) node) inside (record { vars = vars; limit = limit; nodes = nodes })) e here)

  pub node_follows : (node : Triple) → record { vars = vars; limit = limit; nodes = reverse items } ≡ d
      → node.low ≢ node.high → IsBehind d.vars d.nodes node.variable node.low → IsBehind d.vars d.nodes node.variable node.high
      → (Contains items node → ⊥) → MayFollow d.vars d.nodes node
  node_follows node view different low high absent = record {
    different = different;
    low = low;
    high = high;
    missing = subst (λ (e : DiagramView). Contains e.nodes node → ⊥) view
        (λ there. absent (subst (λ (xs : List Triple). Contains xs node) (reverse-reverse items) (contained_in_reverse (reverse items) node there)));
  }

  -- where memory was refused nothing was added
  pub push_fails : (f : Function) (after : List Triple)
      → record { vars = vars; limit = limit; nodes = reverse items } ≡ d
      → IsCanonical (record { vars = vars; limit = limit; nodes = reverse items }) → after ≡ items
      → Grows f d (record { vars = vars; limit = limit; nodes = reverse after })
  push_fails f after view canonical same =
      let inside : DiagramView = record { vars = vars; limit = limit; nodes = reverse items } in
      subst (λ (e : DiagramView). Grows f e (record { vars = vars; limit = limit; nodes = reverse after })) view
      (subst (λ (xs : List Triple). Grows f inside (record { vars = vars; limit = limit; nodes = reverse xs })) (sym same) (Grows-refl f inside canonical))

  pub push_stands : (after : List Triple) (node : Triple) (n : ℕ)
      → record { vars = vars; limit = limit; nodes = reverse items } ≡ d → after ≡ items ++ node ∷ [] → n ≡ length items + 2
      → StandsFor (reverse after) n (node_function d.nodes node) × (first_variable vars (reverse after) n ≡ node.variable)
  push_stands after node n view pushed number =
      let e : node ∷ reverse items ≡ reverse after = sym (ap reverse pushed ∙ reverse-append items (node ∷ [])) in
      let newest : next_number (reverse items) ≡ n = omega (arith, number, length-reverse items) in
      let stands = newest_stands (reverse items) node in
      let stands_in : StandsFor (node ∷ reverse items) (next_number (reverse items)) (node_function d.nodes node) =
      subst (λ (e : DiagramView). StandsFor (node ∷ reverse items) (next_number (reverse items)) (node_function e.nodes node)) view stands in (
        subst (λ (k : ℕ). StandsFor (reverse after) k (node_function d.nodes node)) newest
            (subst (λ (nodes : List Triple). StandsFor nodes (next_number (reverse items)) (node_function d.nodes node)) e stands_in),
        subst (λ (k : ℕ). first_variable vars (reverse after) k ≡ node.variable) newest
            (subst (λ (nodes : List Triple). first_variable vars nodes (next_number (reverse items)) ≡ node.variable) e
            (first-newest vars (reverse items) node)),
      )

  pub push_full : (node : Triple)
      → record { vars = vars; limit = limit; nodes = reverse items } ≡ d
      → IsCanonical (record { vars = vars; limit = limit; nodes = reverse items })
      → MayFollow d.vars d.nodes node → length items ≡ limit
      → IsFullFor (node_function d.nodes node) d limit
  push_full node view canonical follows full =
      let inside : DiagramView = record { vars = vars; limit = limit; nodes = reverse items } in
      let follows_inside = subst (λ (e : DiagramView). MayFollow e.vars e.nodes node) (sym view) follows in
      subst (λ (e : DiagramView). IsFullFor (node_function e.nodes node) e limit) view
      (full_for_node inside node canonical follows_inside (length-reverse items ∙ full))

  pub found_inner : (place : ℕ) (node : Triple)
      → record { vars = vars; limit = limit; nodes = reverse items } ≡ d
      → IsCanonical (record { vars = vars; limit = limit; nodes = reverse items })
      → slice_get items place ≡ Some node → IsInner d.vars d.nodes (place + 2) node
  found_inner place node view canonical found =
      subst (λ (e : DiagramView). IsInner e.vars e.nodes (place + 2) node) view
      (inner_at_place vars items place node canonical.ordered (slice_get_within items place node found)
      (get_or_from_slice_get items place node node found))

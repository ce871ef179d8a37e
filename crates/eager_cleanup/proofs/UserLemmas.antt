-- The last uses of the operands of a node, and of the outputs.
use Rattle.std.proofs.Common.{◌≡◌, ℕ, ◌+◌, ◌<◌, ◌≤◌, true, false, ◌||◌, inl, inr, List, [], ◌∷◌, length, drop, get_or, slice_get, Some, refl, sym, ap, ◌∙◌}
use Rattle.std.proofs.Common.{subst, arith}
use Rattle.std.specs.List.{list_any, flat_map}
use Rattle.std.proofs.lemmas.Bool.{cases_Bool, true≢false}
use Rattle.std.proofs.lemmas.List.{drop_more, get_or-map}
use Rattle.std.proofs.lemmas.Option.{get_or_from_slice_get, slice_get_within}
use Rattle.claim_check.specs.Settled.{SettledView, as_graph}
use Rattle.claim_check.proofs.UsedLemmas.{is_in_from, from_is_in}
use Rattle.dependency_graph.specs.declared.node.Base.{Base}
use Rattle.dependency_graph.specs.declared.node.Base.TheVariants as bases
use Rattle.dependency_graph.specs.declared.node.Node.{Node}
use Rattle.dependency_graph.specs.declared.node.Sig.{Sig}
use Rattle.dependency_graph.specs.declared.node.Sig.TheVariants.{Is}
use Rattle.dependency_graph.specs.Graphs.{base_of, node_of, nodes_among, operands, output_nodes, steps_of}
use Rattle.dependency_graph.proofs.TableLemmas.{length-steps_of}
use Rattle.dependency_graph.proofs.UseLemmas.{needed_later, later_needed, or_right, some_from, reads}
use Rattle.list_facts.specs.Lists.{IsAmong}
use Rattle.list_facts.proofs.AmongLemmas.{among_append, among_left, among_right}
use Rattle.revs_tape.specs.Cuts.{is_in, is_needed}
use Rattle.eager_cleanup.specs.inside.Known.{last_use_of}

-- ---- nodes among bases

pub no_node : (k i : ℕ) → bases.Node k ≡ bases.Input i → ⊥
no_node k i e = cc

pub same_node : (j k : ℕ) → bases.Node j ≡ bases.Node k → j ≡ k
same_node j k e = cc

node_in : (k : ℕ) (base : Base) → bases.Node k ≡ base → IsAmong k (node_of base)
node_in k (bases.Input i) e = absurd (no_node k i e)
node_in k (bases.Node j) e = inl (same_node k j e)

in_node : (k : ℕ) (base : Base) → IsAmong k (node_of base) → bases.Node k ≡ base
in_node k (bases.Input i) among = absurd among
in_node k (bases.Node j) among = elim among as (λ _. bases.Node k ≡ bases.Node j) [ inl e ↦ ap (λ (n : ℕ). bases.Node n) e | inr none ↦ absurd none ]

nodes_from : (k : ℕ) (some : List Base) → IsAmong (bases.Node k) some → IsAmong k (nodes_among some)
nodes_from k [] among = absurd among
nodes_from k (base ∷ rest) among = elim among as (λ _. IsAmong k (nodes_among (base ∷ rest))) [
  | inl e ↦ among_left k (node_of base) (nodes_among rest) (node_in k base e)
  | inr later ↦ among_right k (node_of base) (nodes_among rest) (nodes_from k rest later)
]

from_nodes : (k : ℕ) (some : List Base) → IsAmong k (nodes_among some) → IsAmong (bases.Node k) some
from_nodes k [] among = absurd among
from_nodes k (base ∷ rest) among = elim (among_append k (node_of base) (nodes_among rest) among) as (λ _. IsAmong (bases.Node k) (base ∷ rest)) [
  | inl here ↦ inl (in_node k base here)
  | inr later ↦ inr (from_nodes k rest later)
]

-- ---- steps

abbrev step_of : Node → List ℕ
step_of node = nodes_among (operands node)

step_at : (s : SettledView) (j : ℕ) (node : Node) → slice_get s.nodes j ≡ Some node → get_or (steps_of (as_graph s)) j [] ≡ step_of node
step_at s j node is =
    get_or-map step_of s.nodes j node [] (slice_get_within s.nodes j node is) ∙ ap step_of (get_or_from_slice_get s.nodes j node node is)

-- an operand of a node has its last use there or later
pub used_here : (s : SettledView) (j k : ℕ) (node : Node) → slice_get s.nodes j ≡ Some node → IsAmong (bases.Node k) (operands node)
    → j ≤ last_use_of s k
used_here s j k node is among =
    let steps : List (List ℕ) = steps_of (as_graph s) in
    let low : j < length steps = omega (arith, length-steps_of (as_graph s), slice_get_within s.nodes j node is) in
    let read : reads steps k j ≡ true = ap (λ (step : List ℕ). is_in step k) (step_at s j node is)
    ∙ is_in_from k (step_of node) (nodes_from k (operands node) among) in
    needed_later steps (output_nodes (as_graph s)) k j (omega (arith, low))
    (or_right (is_in (output_nodes (as_graph s)) k) (list_any (λ step. is_in step k) (drop j steps))
    (some_from steps k j j (omega arith) low read))

needed_next : (outputs : List ℕ) (first : List ℕ) (rest : List (List ℕ)) (k : ℕ) → (is_in outputs k || list_any (λ step. is_in step k) (first ∷ rest)) ≡ true
    → (is_in outputs k || list_any (λ step. is_in step k) rest) ≡ false → is_in first k ≡ true
needed_next outputs first rest k needed done = elim (cases_Bool (is_in first k)) as (λ _. is_in first k ≡ true) [
  | inl here ↦ here
  | inr other ↦ absurd (true≢false (sym (rw other at needed) ∙ done))
]

-- a node that has its last use at another one is an operand of it
pub user_of : (s : SettledView) (j k : ℕ) (node : Node) → slice_get s.nodes j ≡ Some node → k < j → last_use_of s k ≡ j
    → IsAmong (bases.Node k) (operands node)
user_of s j k node is low last =
    let steps : List (List ℕ) = steps_of (as_graph s) in
    let outputs : List ℕ = output_nodes (as_graph s) in
    let inside : j < length steps = omega (arith, length-steps_of (as_graph s), slice_get_within s.nodes j node is) in
    let needed : is_needed steps outputs j k ≡ true = later_needed steps outputs k j low (omega (arith, last)) in
    let cut : drop j steps ≡ get_or steps j [] ∷ drop (j + 1) steps = drop_more steps j [] inside in
    let parts : (is_in outputs k || list_any (λ step. is_in step k) (get_or steps j [] ∷ drop (j + 1) steps)) ≡ true =
    sym (ap (λ (rest : List (List ℕ)). is_in outputs k || list_any (λ step. is_in step k) rest) cut) ∙ needed in
    elim (cases_Bool (is_needed steps outputs (j + 1) k)) as (λ _. IsAmong (bases.Node k) (operands node)) [
      | inl later ↦ absurd (omega (arith, last, needed_later steps outputs k (j + 1) (omega (arith, inside)) later))
      | inr no_more ↦
          let read : is_in (get_or steps j []) k ≡ true = needed_next outputs (get_or steps j []) (drop (j + 1) steps) k parts no_more in
          from_nodes k (operands node) (from_is_in k (step_of node) (sym (ap (λ (step : List ℕ). is_in step k) (step_at s j node is)) ∙ read))
    ]

-- ---- outputs

output_in : (k : ℕ) (sigs : List Sig) → IsAmong (Is (bases.Node k)) sigs → IsAmong (bases.Node k) (flat_map base_of sigs)
output_in k [] among = absurd among
output_in k (x ∷ xs) among = elim among as (λ _. IsAmong (bases.Node k) (flat_map base_of (x ∷ xs))) [
  | inl e ↦ among_left (bases.Node k) (base_of x) (flat_map base_of xs)
      (subst (λ (sig : Sig). IsAmong (bases.Node k) (base_of sig)) e (inl refl))
  | inr later ↦ among_right (bases.Node k) (base_of x) (flat_map base_of xs) (output_in k xs later)
]

-- an output has its last use behind all nodes
pub output_last : (s : SettledView) (k : ℕ) → IsAmong (Is (bases.Node k)) s.outputs → last_use_of s k ≡ length s.nodes
output_last s k among =
    let is : is_in (output_nodes (as_graph s)) k ≡ true =
    is_in_from k (output_nodes (as_graph s)) (nodes_from k (flat_map base_of s.outputs) (output_in k s.outputs among)) in
    rw is (length-steps_of (as_graph s))

-- The toggles of a plain graph: a copy and a flip for a negation, two copies for an exclusive or, one flip for a conjunction.
use Rattle.std.proofs.Common.{◌≡◌, ◌≢◌, ℕ, zero, suc, ◌+◌, List, [], ◌∷◌, ◌++◌, map, reverse, Option, Some, slice_get, refl, sym, ap, ap₂, ◌∙◌, inl, inr}
use Rattle.std.proofs.lemmas.Option.{none-some, same_Some}
use Rattle.dependency_graph.specs.declared.node.Base.{Base}
use Rattle.dependency_graph.specs.declared.node.Node.{Node}
use Rattle.dependency_graph.specs.declared.node.Node.TheVariants.{Not, Xor, And}
use Rattle.dependency_graph.specs.Graphs.{IsKnownNode}
use Rattle.dependency_graph.proofs.FoldLemmas.{same_itself}
use Rattle.bit_sums.specs.Sums.{SumView}
use Rattle.mct_circuit.specs.Gates.{GateView, flip_of}
use Rattle.sum_graph.specs.Plain.{plain_sum}
use Rattle.sum_toggles.specs.Toggles.{base_line, gathers, own_base, product_gates}
use Rattle.sum_toggles.proofs.OwnLemmas.{IsOwn, own_is}
use Rattle.held_nodes.specs.Moves.{toggle_of}

-- ---- the node of a sum

pub record IsPlainNode (nodes : List Node) (k : ℕ) (sum : SumView) : Type 0 where
  pub node : Node
  pub is : slice_get nodes k ≡ Some node
  pub plain : sum ≡ plain_sum node

pub plain_node : (nodes : List Node) (k : ℕ) (sum : SumView) → slice_get (map plain_sum nodes) k ≡ Some sum → IsPlainNode nodes k sum
plain_node [] k sum is = absurd (none-some sum is)
plain_node (x ∷ xs) zero sum is = record { node = x; is = refl; plain = sym (same_Some (plain_sum x) sum is) }
plain_node (x ∷ xs) (suc k) sum is = let rest = plain_node xs k sum is in record { node = rest.node; is = rest.is; plain = rest.plain }

pub sum_of_node : (nodes : List Node) (k : ℕ) (node : Node) → slice_get nodes k ≡ Some node → slice_get (map plain_sum nodes) k ≡ Some (plain_sum node)
sum_of_node [] k node is = absurd (none-some node is)
sum_of_node (x ∷ xs) zero node is = ap (λ (n : Node). Some (plain_sum n)) (same_Some x node is)
sum_of_node (x ∷ xs) (suc k) node is = sum_of_node xs k node is

-- ---- toggles

own_single : (a b : Base) → a ≢ b → own_base (a ∷ []) (b ∷ []) ≡ a
own_single a b ne =
    let own : IsOwn (a ∷ []) (b ∷ []) (own_base (a ∷ []) (b ∷ [])) =
    own_is (a ∷ []) (b ∷ []) (record { base = a; here = inl refl; not_there = λ there. elim there [ inl same ↦ ne same | inr none ↦ none ] }) in
    elim own.here as (λ _. own_base (a ∷ []) (b ∷ []) ≡ a) [ inl same ↦ same | inr none ↦ absurd none ]

-- a product of two bits is one flip
pub two_bits : (line : Base → ℕ) (target : ℕ) (a b : Base) → a ≢ b
    → product_gates line target (record { first = a ∷ []; second = b ∷ [] }) ≡ flip_of (line a ∷ line b ∷ []) target ∷ []
two_bits line target a b ne =
    let all : Base → Base → List GateView =
    λ x y. (gathers line x (a ∷ []) ++ gathers line y (b ∷ [])) ++ flip_of (line x ∷ line y ∷ []) target ∷ []
    ++ reverse (gathers line x (a ∷ []) ++ gathers line y (b ∷ [])) in
    let alone : all a b ≡ flip_of (line a ∷ line b ∷ []) target ∷ [] = rw (same_itself a, same_itself b) refl in
    ap₂ all (own_single a b ne) (own_single b a (λ same. ne (sym same))) ∙ alone

-- the gates of a node by its kind
abbrev pub node_gates : ℕ → List (Option ℕ) → ℕ → Node → List GateView
node_gates first lines line (Not a) = flip_of (base_line first lines a ∷ []) (first + line) ∷ flip_of [] (first + line) ∷ []
node_gates first lines line (Xor a b) =
    flip_of (base_line first lines a ∷ []) (first + line) ∷ flip_of (base_line first lines b ∷ []) (first + line) ∷ []
node_gates first lines line (And a b) = flip_of (base_line first lines a ∷ base_line first lines b ∷ []) (first + line) ∷ []

pub plain_toggle : (n k first : ℕ) (lines : List (Option ℕ)) (line : ℕ) (node : Node) → IsKnownNode n k node
    → toggle_of first lines line (plain_sum node) ≡ node_gates first lines line node
plain_toggle n k first lines line (Not a) known = refl
plain_toggle n k first lines line (Xor a b) known = refl
plain_toggle n k first lines line (And a b) known =
    ap (λ (gates : List GateView). (gates ++ []) ++ []) (two_bits (base_line first lines) (first + line) a b known.2)

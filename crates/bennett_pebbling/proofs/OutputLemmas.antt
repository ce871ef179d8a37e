-- The outputs as nodes that are wanted, and the weight of copies.
use Rattle.std.proofs.Common.{◌≡◌, ℕ, ◌+◌, ◌*◌, ◌<◌, ◌≤◌, true, false, inl, inr, List, [], ◌∷◌, ◌++◌, length, drop, Option, sum_by, sym, ◌∙◌, ap, subst, arith}
use Rattle.std.proofs.Common.{length-append}
use Rattle.std.specs.List.{AllByRecursion, flat_map, list_any}
use Rattle.std.proofs.lemmas.List.{drop_all}
use Rattle.std.proofs.lemmas.List.Sums.{sum_by-append}
use Rattle.list_facts.specs.Lists.{IsAmong, below}
use Rattle.list_facts.proofs.AllLemmas.{AllByRecursion-append}
use Rattle.list_facts.proofs.AmongLemmas.{among_left, among_right}
use Rattle.revs_tape.specs.Cuts.{is_in, is_needed}
use Rattle.dependency_graph.specs.declared.node.Base.TheVariants as bases
use Rattle.dependency_graph.specs.declared.node.Sig.{Sig}
use Rattle.dependency_graph.specs.declared.node.Sig.TheVariants.{Const, Is}
use Rattle.dependency_graph.specs.Graphs.{IsKnownBase, nodes_among}
use Rattle.dependency_graph.proofs.UseLemmas.{filter_passes, last_uses_tell_cuts}
use Rattle.bit_sums.specs.Sums.{SumView, bases_of}
use Rattle.claim_check.proofs.UsedLemmas.{is_in_from}
use Rattle.sum_graph.specs.Graphs.{IsKnownSum, IsSumGraph, SumGraphView}
use Rattle.sum_graph.specs.Plain.{plain_output}
use Rattle.sum_graph.specs.Uses.{sum_last_use, sum_output_nodes, sum_steps}
use Rattle.sum_graph.proofs.TableLemmas.{length-sum_steps}
use Rattle.sum_toggles.specs.Toggles.{toggle_weight}
use Rattle.held_nodes.specs.Held.{is_held}
use Rattle.held_nodes.specs.Moves.{IsReadySum}
use Rattle.held_nodes.proofs.PlaceLemmas.{known_bases}
use Rattle.bennett_pebbling.specs.Pebbling.{IsCopy, IsLight, plain_weight}
use Rattle.bennett_pebbling.proofs.NeedLemmas.{all_below, nodes-append}
use Rattle.bennett_pebbling.proofs.ReadyLemmas.{or_true, ready_operands}

-- ---- light outputs

one_node : (sig : Sig) → length (nodes_among (bases_of (plain_output sig))) ≤ 1
one_node (Const bit) = omega arith
one_node (Is (bases.Input i)) = omega arith
one_node (Is (bases.Node k)) = omega arith

few_nodes : (sums : List SumView) → AllByRecursion IsCopy sums → length (nodes_among (flat_map bases_of sums)) ≤ length sums
few_nodes [] light = omega arith
few_nodes (x ∷ rest) light =
    let copy = light.0 in
    let here : length (nodes_among (bases_of x)) ≤ 1 =
    subst (λ (s : SumView). length (nodes_among (bases_of s)) ≤ 1) (sym copy.is) (one_node copy.sig) in
    let all = ap length (nodes-append (bases_of x) (flat_map bases_of rest)) in
    let long = length-append (nodes_among (bases_of x)) (nodes_among (flat_map bases_of rest)) in
    omega (arith, here, all, long, few_nodes rest light.1)

pub few_outputs : (s : SumGraphView) → IsLight s → length (sum_output_nodes s) ≤ length s.outputs
few_outputs s light = few_nodes s.outputs light.outputs

light_copy : (sig : Sig) → toggle_weight (plain_output sig) ≤ 1
light_copy (Const true) = omega arith
light_copy (Const false) = omega arith
light_copy (Is base) = omega arith

pub light_copies : (sums : List SumView) → AllByRecursion IsCopy sums → sum_by toggle_weight sums ≤ length sums
light_copies [] light = omega arith
light_copies (x ∷ rest) light =
    let copy = light.0 in
    let here : toggle_weight x ≤ 1 = subst (λ (s : SumView). toggle_weight s ≤ 1) (sym copy.is) (light_copy copy.sig) in
    let all = sum_by-append toggle_weight (x ∷ []) rest in
    omega (arith, all, here, light_copies rest light.1)

light_nodes : (sums : List SumView) → AllByRecursion (λ (s : SumView). toggle_weight s ≤ 2) sums → sum_by toggle_weight sums ≤ 2 * length sums
light_nodes [] light = omega arith
light_nodes (x ∷ rest) light =
    let all = sum_by-append toggle_weight (x ∷ []) rest in
    let here = light.0 in
    omega (arith, all, here, light_nodes rest light.1)

-- a light graph's nodes and outputs
pub light_weight : (s : SumGraphView) → IsLight s → plain_weight s ≤ 4 * length s.nodes + length s.outputs
light_weight s light = omega (arith, light_nodes s.nodes light.toggles, light_copies s.outputs light.outputs)

-- ---- outputs

-- an output's last use is behind all nodes
pub output_use : (s : SumGraphView) (k : ℕ) → IsAmong k (sum_output_nodes s) → sum_last_use s k ≡ length s.nodes
output_use s k among =
    let is : is_in (sum_output_nodes s) k ≡ true = is_in_from k (sum_output_nodes s) among in
    rw is (length-sum_steps s)

-- and only an output's is
pub use_output : (s : SumGraphView) (k : ℕ) → k < length s.nodes → length s.nodes ≤ sum_last_use s k
    → is_in (sum_output_nodes s) k ≡ true
use_output s k low later =
    let g = s in
    let n = length s.nodes in
    let long = length-sum_steps g in
    let among = (last_uses_tell_cuts (sum_steps g) (sum_output_nodes g) k n low (omega (arith, long))).1 later in
    let needed = filter_passes (is_needed (sum_steps g) (sum_output_nodes g) n) k (below n) among in
    elim (or_true (is_in (sum_output_nodes g) k) (list_any (λ operands. is_in operands k) (drop n (sum_steps g))) needed) as
    (λ _. is_in (sum_output_nodes g) k ≡ true) [
      | inl is ↦ is
      | inr some ↦
          let none : drop n (sum_steps g) ≡ [] = drop_all n (sum_steps g) (omega (arith, long)) in
          absurd (let clash : false ≡ true = sym (ap (list_any (λ operands. is_in operands k)) none) ∙ some in cc)
    ]

known_outputs : (n k : ℕ) (sums : List SumView) → AllByRecursion (IsKnownSum n k) sums → AllByRecursion (IsKnownBase n k) (flat_map bases_of sums)
known_outputs n k [] known = tt
known_outputs n k (x ∷ rest) known =
    AllByRecursion-append (IsKnownBase n k) (bases_of x) (flat_map bases_of rest) (known_bases n k x known.0) (known_outputs n k rest known.1)

ready_sums : (lines : List (Option ℕ)) (sums : List SumView) → ((j : ℕ) → IsAmong j (nodes_among (flat_map bases_of sums)) → is_held lines j ≡ true)
    → AllByRecursion (IsReadySum lines) sums
ready_sums lines [] each = tt
ready_sums lines (x ∷ rest) each =
    let some = nodes_among (bases_of x) in
    let more = nodes_among (flat_map bases_of rest) in
    let both : some ++ more ≡ nodes_among (flat_map bases_of (x ∷ rest)) = sym (nodes-append (bases_of x) (flat_map bases_of rest)) in (
      ready_operands lines (bases_of x) (λ j among. each j (subst (IsAmong j) both (among_left j some more among))),
      ready_sums lines rest (λ j among. each j (subst (IsAmong j) both (among_right j some more among))),
    )

-- where each output is held, all can be copied
pub ready_outputs : (s : SumGraphView) (lines : List (Option ℕ)) → IsSumGraph s
    → ((k : ℕ) → k < length s.nodes → sum_last_use s k ≡ length s.nodes → is_held lines k ≡ true)
    → AllByRecursion (IsReadySum lines) s.outputs
ready_outputs s lines sums held =
    ready_sums lines s.outputs
    (λ j among. held j (all_below s.inputs (length s.nodes) j (flat_map bases_of s.outputs) (known_outputs s.inputs (length s.nodes) s.outputs sums.outputs)
    among)
    (output_use s j among))

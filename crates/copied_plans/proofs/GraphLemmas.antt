-- The copied graph as it is made.
use Rattle.std.proofs.Common.{◌≡◌, ℕ, ◌+◌, ◌*◌, ◌≤◌, List, [], ◌∷◌, ◌++◌, length, take, get_or, slice_get, Some}
use Rattle.std.proofs.Common.{sym, ap, ◌∙◌, arith}
use Rattle.std.specs.List.{AllByRecursion}
use Rattle.std.proofs.lemmas.List.{length-take-le, take_more}
use Rattle.std.proofs.lemmas.Option.{get_or_from_slice_get, slice_get_within}
use Rattle.list_facts.proofs.AllLemmas.{AllByRecursion-weaker}
use Rattle.revs_tape.specs.declared.limits.TheConstants.{MOST_WRITES}
use Rattle.dependency_graph.specs.declared.node.Base.{Base}
use Rattle.dependency_graph.specs.declared.node.Base.TheVariants as bases
use Rattle.dependency_graph.specs.declared.node.Node.{Node}
use Rattle.dependency_graph.specs.declared.node.Node.TheVariants.{Not, Xor, And}
use Rattle.dependency_graph.specs.declared.node.Sig.{Sig}
use Rattle.dependency_graph.specs.declared.node.Sig.TheVariants.{Const, Is}
use Rattle.dependency_graph.specs.Graphs.{IsKnownBase, IsKnownNode, IsKnownSig}
use Rattle.claim_check.specs.Settled.{IsSettled, SettledView}
use Rattle.bit_sums.specs.Sums.{SumView}
use Rattle.copied_plans.specs.inside.Copied.{HasFewOperands, IsFewBase, IsFewSig, copied_nodes, copied_sums}
use Rattle.copied_plans.proofs.CopiedLemmas.{copied_push}

-- ---- numbers that fit

few_base : (n k : ℕ) (base : Base) → k ≤ MOST_WRITES → IsKnownBase n k base → IsFewBase base
few_base n k (bases.Input i) few known = tt
few_base n k (bases.Node j) few known = omega (arith, few, known)

few_sig : (n k : ℕ) (sig : Sig) → k ≤ MOST_WRITES → IsKnownSig n k sig → IsFewSig sig
few_sig n k (Const bit) few known = tt
few_sig n k (Is base) few known = few_base n k base few known

pub few_operands : (n k : ℕ) (node : Node) → k ≤ MOST_WRITES → IsKnownNode n k node → HasFewOperands node
few_operands n k (Not a) few known = few_base n k a few known
few_operands n k (Xor a b) few known = (few_base n k a few known.0, few_base n k b few known.1)
few_operands n k (And a b) few known = (few_base n k a few known.0, few_base n k b few known.1)

pub few_outputs : (s : SettledView) → IsSettled s → AllByRecursion IsFewSig s.outputs
few_outputs s is =
    AllByRecursion-weaker (IsKnownSig s.inputs (length s.nodes)) IsFewSig (λ sig known. few_sig s.inputs (length s.nodes) sig is.few_nodes known) s.outputs
    is.outputs

-- ---- one node more

pub copied_more : (nodes : List Node) (k : ℕ) (node : Node) (some next : List SumView) → slice_get nodes k ≡ Some node
    → next ≡ some ++ copied_sums (3 * k) node → some ≡ copied_nodes 0 (take k nodes) → next ≡ copied_nodes 0 (take (k + 1) nodes)
copied_more nodes k node some next at pushed before =
    let here : get_or nodes k node ≡ node = get_or_from_slice_get nodes k node node at in
    let low = slice_get_within nodes k node at in
    let long : length (take k nodes) ≡ k = length-take-le k nodes (omega (arith, low)) in
    pushed
    ∙ ap (λ (sums : List SumView). sums ++ copied_sums (3 * k) node) before
    ∙ ap (λ (n : ℕ). copied_nodes 0 (take k nodes) ++ copied_sums (3 * n) node) (omega (arith, long))
    ∙ sym (copied_push 0 (take k nodes) node)
    ∙ ap (λ (x : Node). copied_nodes 0 (take k nodes ++ x ∷ [])) (sym here)
    ∙ ap (λ (ns : List Node). copied_nodes 0 ns) (sym (take_more nodes k node low))

-- The gates of the straight plan of a copied graph, and what they weigh.
use Rattle.std.proofs.Common.{◌≡◌, ◌≢◌, ℕ, ◌+◌, ◌*◌, ◌≤◌, true, false, List, [], ◌∷◌, ◌++◌, length, map, Option, sum_by}
use Rattle.std.proofs.Common.{refl, ap, ◌∙◌, arith}
use Rattle.std.proofs.lemmas.List.Sums.{sum_by-cons}
use Rattle.dependency_graph.specs.declared.node.Base.{Base}
use Rattle.dependency_graph.specs.declared.node.Base.TheVariants as bases
use Rattle.dependency_graph.specs.declared.node.Node.{Node}
use Rattle.dependency_graph.specs.declared.node.Node.TheVariants.{Not, Xor, And}
use Rattle.dependency_graph.specs.declared.node.Sig.{Sig}
use Rattle.dependency_graph.specs.declared.node.Sig.TheVariants.{Const, Is}
use Rattle.bit_sums.specs.Sums.{SumView}
use Rattle.mct_circuit.specs.Gates.{GateView, flip_of}
use Rattle.mct_circuit.specs.Sizes.{toffoli_weight}
use Rattle.gate_chains.specs.Depths.{AreWeightless}
use Rattle.sum_graph.specs.Plain.{plain_sum}
use Rattle.sum_toggles.specs.Toggles.{sum_gates, toggle_weight}
use Rattle.held_nodes.specs.Moves.{copies_from}
use Rattle.held_nodes.proofs.PlainLemmas.{two_bits}
use Rattle.copied_plans.specs.inside.Copied.{copied_base, copied_nodes, copied_output, on_copies}
use Rattle.copied_plans.specs.inside.Straight.{line_at, sums_in_order}
use Rattle.copied_plans.proofs.GateLemmas.{all_gates, line_of}

-- ---- gates

line_same : (first : ℕ) (base : Base) → line_at first (copied_base base) ≡ line_of first base
line_same first (bases.Input i) = refl
line_same first (bases.Node j) = refl

pub next_other : (k : ℕ) → bases.Node k ≢ bases.Node (k + 1)
next_other k same =
    let number : Base → ℕ = λ base. line_at 0 base in
    let e : 0 + k ≡ 0 + (k + 1) = ap number same in
    omega (arith, e)

-- a node's value is toggled by its copies
and_value : (first k t : ℕ)
    → sum_gates (line_at first) t (plain_sum (on_copies k (And (bases.Input 0) (bases.Input 0)))) ≡ flip_of ((first + k) ∷ (first + (k + 1)) ∷ []) t ∷ []
and_value first k t =
    ap (λ (gates : List GateView). (gates ++ []) ++ []) (two_bits (line_at first) t (bases.Node k) (bases.Node (k + 1)) (next_other k))

not_frame : (x y p q t u v w : ℕ) (rest more : List GateView) → x ≡ y → p ≡ q → t ≡ u → v ≡ w → rest ≡ more
    → (flip_of (x ∷ []) t ∷ flip_of (p ∷ []) v ∷ flip_of [] v ∷ rest) ≡ (flip_of (y ∷ []) u ∷ flip_of (q ∷ []) w ∷ flip_of [] w ∷ more)
not_frame x y p q t u v w rest more a b c d e = cc

xor_frame : (x y i j p q l m t u v w g h : ℕ) (rest more : List GateView) → x ≡ y → i ≡ j → p ≡ q → l ≡ m → t ≡ u → v ≡ w → g ≡ h → rest ≡ more
    → (flip_of (x ∷ []) t ∷ flip_of (i ∷ []) v ∷ flip_of (p ∷ []) g ∷ flip_of (l ∷ []) g ∷ rest)
    ≡ (flip_of (y ∷ []) u ∷ flip_of (j ∷ []) w ∷ flip_of (q ∷ []) h ∷ flip_of (m ∷ []) h ∷ more)
xor_frame x y i j p q l m t u v w g h rest more a b c d e f k n = cc

and_frame : (x y i j p q l m t u v w g h : ℕ) (rest more : List GateView) → x ≡ y → i ≡ j → p ≡ q → l ≡ m → t ≡ u → v ≡ w → g ≡ h → rest ≡ more
    → (flip_of (x ∷ []) t ∷ flip_of (i ∷ []) v ∷ flip_of (p ∷ l ∷ []) g ∷ rest)
    ≡ (flip_of (y ∷ []) u ∷ flip_of (j ∷ []) w ∷ flip_of (q ∷ m ∷ []) h ∷ more)
and_frame x y i j p q l m t u v w g h rest more a b c d e f k n = cc

-- the sums of copied nodes in order, on lines from the k-th node's on, have the gates of these nodes
pub gates_joined : (first k at : ℕ) (nodes : List Node) → at ≡ first + 3 * k
    → sums_in_order (line_at first) at (copied_nodes k nodes) ≡ all_gates first k nodes
gates_joined first k at [] e = refl
gates_joined first k at (Not a ∷ rest) e =
    let next = gates_joined first (k + 1) (at + 1 + 1 + 1) rest (omega (arith, e)) in
    not_frame (line_at first (copied_base a)) (line_of first a) (first + 3 * k) (first + 3 * k) at (first + 3 * k) (at + 1 + 1) (first + 3 * k + 2)
    (sums_in_order (line_at first) (at + 1 + 1 + 1) (copied_nodes (k + 1) rest)) (all_gates first (k + 1) rest) (line_same first a) refl e
    (omega (arith, e)) next
gates_joined first k at (Xor a b ∷ rest) e =
    let next = gates_joined first (k + 1) (at + 1 + 1 + 1) rest (omega (arith, e)) in
    let c = first + 3 * k in
    xor_frame (line_at first (copied_base a)) (line_of first a) (line_at first (copied_base b)) (line_of first b) c c (first + (3 * k + 1)) (c + 1)
    at c (at + 1) (c + 1) (at + 1 + 1) (c + 2)
    (sums_in_order (line_at first) (at + 1 + 1 + 1) (copied_nodes (k + 1) rest)) (all_gates first (k + 1) rest) (line_same first a) (line_same first b)
    refl (omega arith) e (omega (arith, e)) (omega (arith, e)) next
gates_joined first k at (And a b ∷ rest) e =
    let next = gates_joined first (k + 1) (at + 1 + 1 + 1) rest (omega (arith, e)) in
    let c = first + 3 * k in
    let behind = sums_in_order (line_at first) (at + 1 + 1 + 1) (copied_nodes (k + 1) rest) in
    ap (λ (gates : List GateView). flip_of (line_at first (copied_base a) ∷ []) at ∷ flip_of (line_at first (copied_base b) ∷ []) (at + 1)
    ∷ (gates ++ behind)) (and_value first (3 * k) (at + 1 + 1))
    ∙ and_frame (line_at first (copied_base a)) (line_of first a) (line_at first (copied_base b)) (line_of first b) c c (first + (3 * k + 1)) (c + 1)
    at c (at + 1) (c + 1) (at + 1 + 1) (c + 2) behind (all_gates first (k + 1) rest) (line_same first a) (line_same first b)
    refl (omega arith) e (omega (arith, e)) (omega (arith, e)) next

-- ---- copies of outputs

-- no copy of a base or a constant is a Toffoli gate
pub copies_weightless : (first : ℕ) (lines : List (Option ℕ)) (target : ℕ) (sigs : List Sig)
    → AreWeightless toffoli_weight (copies_from first lines target (map copied_output sigs))
copies_weightless first lines target [] = tt
copies_weightless first lines target (Const true ∷ rest) = (refl, copies_weightless first lines (target + 1) rest)
copies_weightless first lines target (Const false ∷ rest) = copies_weightless first lines (target + 1) rest
copies_weightless first lines target (Is base ∷ rest) = (refl, copies_weightless first lines (target + 1) rest)

-- ---- weights

output_weight : (sig : Sig) → toggle_weight (copied_output sig) ≤ 1
output_weight (Const true) = omega arith
output_weight (Const false) = omega arith
output_weight (Is base) = omega arith

pub outputs_weigh : (sigs : List Sig) → sum_by toggle_weight (map copied_output sigs) ≤ length sigs
outputs_weigh [] = omega arith
outputs_weigh (sig ∷ rest) =
    omega (arith, sum_by-cons toggle_weight (copied_output sig) (map copied_output rest), output_weight sig, outputs_weigh rest)

three_weigh : (one other value : SumView) (rest : List SumView)
    → sum_by toggle_weight (one ∷ other ∷ value ∷ rest) ≡ toggle_weight one + toggle_weight other + toggle_weight value + sum_by toggle_weight rest
three_weigh one other value rest =
    omega (arith, sum_by-cons toggle_weight one (other ∷ value ∷ rest), sum_by-cons toggle_weight other (value ∷ rest), sum_by-cons toggle_weight value rest)

pub nodes_weigh : (k : ℕ) (nodes : List Node) → sum_by toggle_weight (copied_nodes k nodes) ≤ 4 * length nodes
nodes_weigh k [] = omega arith
nodes_weigh k (Not a ∷ rest) =
    let three = three_weigh (copied_output (Is a)) (copied_output (Const false)) (plain_sum (on_copies (3 * k) (Not a))) (copied_nodes (k + 1) rest) in
    omega (arith, three, nodes_weigh (k + 1) rest)
nodes_weigh k (Xor a b ∷ rest) =
    let three = three_weigh (copied_output (Is a)) (copied_output (Is b)) (plain_sum (on_copies (3 * k) (Xor a b))) (copied_nodes (k + 1) rest) in
    omega (arith, three, nodes_weigh (k + 1) rest)
nodes_weigh k (And a b ∷ rest) =
    let three = three_weigh (copied_output (Is a)) (copied_output (Is b)) (plain_sum (on_copies (3 * k) (And a b))) (copied_nodes (k + 1) rest) in
    omega (arith, three, nodes_weigh (k + 1) rest)

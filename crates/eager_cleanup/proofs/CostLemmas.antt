-- What the gates of a toggle, of a clearing by cubes, and of the copies are split into, at most.
use Rattle.std.proofs.Common.{◌≡◌, ℕ, ◌+◌, ◌-◌, ◌*◌, ◌<◌, ◌≤◌, true, false, inl, inr, List, [], ◌∷◌, ◌++◌, length, map, reverse, Option, ap, arith}
use Rattle.std.specs.List.{AllByRecursion, sum_by}
use Rattle.std.proofs.lemmas.Bool.Decides.{leb_tells}
use Rattle.std.proofs.lemmas.List.{length-map}
use Rattle.std.proofs.lemmas.List.Sorted.{IsPermutation-reverse, sum_by-IsPermutation}
use Rattle.std.proofs.lemmas.List.Sums.{sum_by-cons, sum_by-append}
use Rattle.dependency_graph.specs.declared.node.Node.{Node}
use Rattle.dependency_graph.specs.declared.node.Node.TheVariants.{Not, Xor, And}
use Rattle.dependency_graph.specs.declared.node.Sig.{Sig}
use Rattle.dependency_graph.specs.declared.node.Sig.TheVariants.{Const, Is}
use Rattle.std.proofs.Common.{Some, slice_get, sym, subst, ◌∙◌}
use Rattle.bit_sums.specs.Sums.{SumView}
use Rattle.claim_check.specs.Settled.{IsSettled, SettledView}
use Rattle.claim_check.proofs.NodeLemmas.{known_at}
use Rattle.sum_graph.specs.Graphs.{SumGraphView}
use Rattle.sum_graph.specs.Plain.{plain_of, plain_output, plain_sum}
use Rattle.sum_toggles.specs.Toggles.{base_line, sum_gates, toggle_weight}
use Rattle.held_nodes.proofs.PlainLemmas.{node_gates, plain_node, plain_toggle}
use Rattle.exclusive_sums.specs.declared.cube.Literal.{Literal}
use Rattle.exclusive_sums.specs.Cubes.{IsCube, input_of}
use Rattle.gate_split.specs.Costs.{IsRoomyFlip, most_gates}
use Rattle.gate_split.proofs.RoomyFlipLemmas.{roomy_flips}
use Rattle.held_nodes.specs.Held.{ForwardView, IsForward}
use Rattle.held_nodes.specs.Moves.{control_of, copies_from, cube_flip, cube_flips, toggle_of}
use Rattle.mct_circuit.specs.Sizes.{weight_in}
use Rattle.list_facts.specs.Lists.{IsRising}
use Rattle.list_facts.proofs.AllLemmas.{AllByRecursion-weaker}
use Rattle.mct_circuit.specs.declared.gate.Control.{Control}
use Rattle.mct_circuit.specs.declared.gate.Op.TheVariants.{Flip}
use Rattle.mct_circuit.specs.Gates.{GateView}
use Rattle.mct_circuit.specs.Sizes.{weight_of}
use Rattle.eager_cleanup.specs.inside.Sweeps.{gates_in}

-- the most gates of a list together
abbrev pub most_in : List GateView → ℕ
most_in gates = sum_by most_gates gates

-- ---- weights

light_gates : (n : ℕ) (gates : List GateView) → AllByRecursion (IsRoomyFlip n) gates → weight_in gates ≤ most_in gates
light_gates n [] roomy = omega arith
light_gates n (gate ∷ gates) roomy = omega
    (arith, sum_by-cons weight_of gate gates, sum_by-cons most_gates gate gates, roomy_flips.weight n gate roomy.0, light_gates n gates roomy.1)

pub light_forward : (f : ForwardView) → IsForward f → weight_in f.gates ≤ gates_in f
light_forward f is = light_gates _ f.gates is.roomy

light_flip : (controls : List Control) (target : ℕ) → weight_of (record { controls = controls; op = Flip target })
    ≤ most_gates (record { controls = controls; op = Flip target })
light_flip controls target = elim (leb_tells (length controls) 2) [
  | inl t ↦ rw t.0 (omega arith)
  | inr t ↦ rw t.0 (omega (arith, t.1))
]

pub light_cubes : (first line : ℕ) (cubes : List (List Literal)) → weight_in (cube_flips first line cubes) ≤ most_in (cube_flips first line cubes)
light_cubes first line [] = omega arith
light_cubes first line (cube ∷ cubes) = omega (
  arith,
  sum_by-cons weight_of (cube_flip first line cube) (cube_flips first line cubes),
  sum_by-cons most_gates (cube_flip first line cube) (cube_flips first line cubes),
  light_flip (map control_of cube) (first + line),
  light_cubes first line cubes,
)

-- ---- a toggle

most-node : (first : ℕ) (lines : List (Option ℕ)) (line : ℕ) (node : Node) → most_in (node_gates first lines line node) ≤ 2
most-node first lines line (Not a) = omega arith
most-node first lines line (Xor a b) = omega arith
most-node first lines line (And a b) = omega arith

node_weight : (node : Node) → toggle_weight (plain_sum node) ≤ 2
node_weight (Not a) = omega arith
node_weight (Xor a b) = omega arith
node_weight (And a b) = omega arith

-- the gates of a toggle over a plain graph are split into two at most
pub plain-toggle : (s : SettledView) (g : SumGraphView) (k : ℕ) (sum : SumView) → IsSettled s → g ≡ plain_of s → slice_get g.nodes k ≡ Some sum
    → (first : ℕ) (lines : List (Option ℕ)) (line : ℕ) → most_in (toggle_of first lines line sum) ≤ 2
plain-toggle s g k sum settled e is first lines line =
    let node = plain_node s.nodes k sum (subst (λ (h : SumGraphView). slice_get h.nodes k ≡ Some sum) e is) in
    let known = known_at s.inputs k s.nodes node.node settled.nodes node.is in
    let gates : toggle_of first lines line sum ≡ node_gates first lines line node.node =
    ap (toggle_of first lines line) node.plain ∙ plain_toggle s.inputs k first lines line node.node known in
    subst (λ (gs : List GateView). most_in gs ≤ 2) (sym gates) (most-node first lines line node.node)

pub plain_weight : (s : SettledView) (g : SumGraphView) (k : ℕ) (sum : SumView) → g ≡ plain_of s → slice_get g.nodes k ≡ Some sum → toggle_weight sum ≤ 2
plain_weight s g k sum e is =
    let node = plain_node s.nodes k sum (subst (λ (h : SumGraphView). slice_get h.nodes k ≡ Some sum) e is) in
    subst (λ (x : SumView). toggle_weight x ≤ 2) (sym node.plain) (node_weight node.node)

-- ---- cubes

-- rising numbers from one number on and below another are no more than lie between
pub rising_few : (low n : ℕ) (xs : List ℕ) → IsRising xs → AllByRecursion (λ x. low ≤ x) xs → AllByRecursion (λ x. x < n) xs → length xs ≤ n - low
rising_few low n [] up above below = omega arith
rising_few low n (x ∷ xs) up above below =
    let rest = rising_few (x + 1) n xs up.1 (AllByRecursion-weaker (λ y. x < y) (λ y. x + 1 ≤ y) (λ y lt. omega (arith, lt)) xs up.0) below.1 in
    omega (arith, rest, above.0, below.0)

all_map : {A : Type 0} (f : A → ℕ) (n : ℕ) (xs : List A) → AllByRecursion (λ x. f x < n) xs → AllByRecursion (λ y. y < n) (map f xs)
all_map f n [] all = tt
all_map f n (x ∷ xs) all = (all.0, all_map f n xs all.1)

all_from_zero : (xs : List ℕ) → AllByRecursion (λ x. 0 ≤ x) xs
all_from_zero [] = tt
all_from_zero (x ∷ xs) = (omega arith, all_from_zero xs)

cube_few : (n : ℕ) (cube : List Literal) → IsCube cube → AllByRecursion (λ (l : Literal). l.input < n) cube → length cube ≤ n
cube_few n cube up low = omega
    (arith, length-map cube input_of, rising_few 0 n (map input_of cube) up (all_from_zero (map input_of cube)) (all_map input_of n cube low))

most-cube : (n first line : ℕ) (cube : List Literal) → length cube ≤ n → most_gates (cube_flip first line cube) ≤ 10 * n + 1
most-cube n first line cube few = omega (arith, roomy_flips.each (cube_flip first line cube), length-map cube control_of, few)

pub most-cubes : (n first line : ℕ) (cubes : List (List Literal)) → AllByRecursion IsCube cubes
    → AllByRecursion (AllByRecursion (λ (l : Literal). l.input < n)) cubes → most_in (cube_flips first line cubes) ≤ length cubes * (10 * n + 1)
most-cubes n first line [] up low = omega arith
most-cubes n first line (cube ∷ cubes) up low =
    let one = most-cube n first line cube (cube_few n cube up.0 low.0) in
    let rest = most-cubes n first line cubes up.1 low.1 in
    omega (arith, sum_by-cons most_gates (cube_flip first line cube) (cube_flips first line cubes), one, rest)

-- ---- copies, and gates reversed

most-copy : (first : ℕ) (lines : List (Option ℕ)) (target : ℕ) (sig : Sig) → most_in (sum_gates (base_line first lines) target (plain_output sig)) ≤ 1
most-copy first lines target (Const true) = omega arith
most-copy first lines target (Const false) = omega arith
most-copy first lines target (Is base) = omega arith

pub most-copies : (first : ℕ) (lines : List (Option ℕ)) (target : ℕ) (sigs : List Sig)
    → most_in (copies_from first lines target (map plain_output sigs)) ≤ length sigs
most-copies first lines target [] = omega arith
most-copies first lines target (x ∷ xs) = omega (
  arith,
  sum_by-append most_gates (sum_gates (base_line first lines) target (plain_output x)) (copies_from first lines (target + 1) (map plain_output xs)),
  most-copy first lines target x,
  most-copies first lines (target + 1) xs,
)

weight-copy : (sig : Sig) → toggle_weight (plain_output sig) ≤ 1
weight-copy (Const true) = omega arith
weight-copy (Const false) = omega arith
weight-copy (Is base) = omega arith

pub weight-copies-le : (sigs : List Sig) → sum_by toggle_weight (map plain_output sigs) ≤ length sigs
weight-copies-le [] = omega arith
weight-copies-le (x ∷ xs) =
    omega (arith, sum_by-append toggle_weight (plain_output x ∷ []) (map plain_output xs), weight-copy x, weight-copies-le xs)

most-reverse : (gates : List GateView) → most_in (reverse gates) ≡ most_in gates
most-reverse gates = sum_by-IsPermutation most_gates gates (reverse gates) (IsPermutation-reverse gates)

-- gates, copies, and the gates reversed
pub most-finished : (gates copies : List GateView) → most_in (gates ++ copies ++ reverse gates) ≡ 2 * most_in gates + most_in copies
most-finished gates copies = omega
    (arith, sum_by-append most_gates (gates ++ copies) (reverse gates), sum_by-append most_gates gates copies, most-reverse gates)

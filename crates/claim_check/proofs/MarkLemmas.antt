-- The marks that the code sets, and the nodes that it keeps by them, node by node.
use Rattle.std.proofs.Common.{◌≡◌, ℕ, zero, suc, ◌+◌, ◌<◌, ◌≤◌, Bool, true, false, cond, ◌⊎◌, inl, inr, List, [], ◌∷◌, ◌++◌, length, drop, map, set, replicate}
use Rattle.std.proofs.Common.{slice_get, Some, get_or, refl, sym, ap, ◌∙◌, subst, arith, length-append}
use Rattle.std.specs.List.{AllByRecursion, flat_map}
use Rattle.std.proofs.lemmas.List.{append_assoc, drop_more, length-replicate}
use Rattle.list_facts.specs.Bits.{bit_of}
use Rattle.list_facts.specs.Lists.{IsAmong}
use Rattle.list_facts.proofs.AllLemmas.{AllByRecursion-append, AllByRecursion-weaker}
use Rattle.list_facts.proofs.AmongLemmas.{among_left, among_right, among_append}
use Rattle.list_facts.proofs.CutLemmas.{drop_got}
use Rattle.dependency_graph.specs.declared.node.Base.{Base}
use Rattle.dependency_graph.specs.declared.node.Base.TheVariants as bases
use Rattle.dependency_graph.specs.declared.node.Node.{Node}
use Rattle.dependency_graph.specs.declared.node.Node.TheVariants.{Not, Xor, And}
use Rattle.dependency_graph.specs.declared.node.Sig.{Sig}
use Rattle.dependency_graph.specs.declared.node.Sig.TheVariants.{Const, Is}
use Rattle.dependency_graph.specs.Graphs.{GraphView, IsGraph, IsKnownBase, IsKnownSig, IsKnownNode, AreKnownNodes, base_of}
use Rattle.dependency_graph.specs.Graphs.{node_of, nodes_among, operands, output_nodes, steps_of}
use Rattle.dependency_graph.proofs.TableLemmas.{step_of, step_at}
use Rattle.claim_check.specs.Kept.{IsKept, as_output, as_operand, kept_nodes, renumbered}
use Rattle.claim_check.specs.inside.Marks.{with_mark, with_marks, with_operands, with_nodes}
use Rattle.claim_check.proofs.KeptLemmas.{AreKept, AreClosed, IsClosed}

-- ---- marks by falling nodes

mark_step : (start now : List Bool) (nodes : List Node) (j k : ℕ) (node : Node) → j + 1 ≡ k → drop j nodes ≡ node ∷ drop (j + 1) nodes
    → now ≡ with_nodes start k (drop k nodes) → with_nodes start j (drop j nodes) ≡ with_operands now j node
mark_step start now nodes j k node next is so_far =
    ap (with_nodes start j) is
    ∙ ap (λ (z : ℕ). with_operands (with_nodes start z (drop z nodes)) j node) next
    ∙ ap (λ (z : List Bool). with_operands z j node) (sym so_far)

pub marked_node : (start now : List Bool) (nodes : List Node) (j k : ℕ) (node : Node) → j + 1 ≡ k → slice_get nodes j ≡ Some node
    → now ≡ with_nodes start k (drop k nodes) → bit_of now j ≡ true → with_marks now (operands node) ≡ with_nodes start j (drop j nodes)
marked_node start now nodes j k node next got so_far marked =
    sym (mark_step start now nodes j k node next (drop_got nodes j node got) so_far ∙ rw marked refl)

pub unmarked_node : (start now : List Bool) (nodes : List Node) (j k : ℕ) → j + 1 ≡ k → j < length nodes
    → now ≡ with_nodes start k (drop k nodes) → bit_of now j ≡ false → now ≡ with_nodes start j (drop j nodes)
unmarked_node start now nodes j k next inside so_far unmarked =
    sym (mark_step start now nodes j k _ next (drop_more nodes j (Not (bases.Input 0)) inside) so_far ∙ rw unmarked refl)

-- ---- kept nodes by rising nodes

pub kept_node : (kept : ℕ → Bool) (numbers : ℕ → ℕ) (so_far all nodes : List Node) (k : ℕ) (node : Node) → slice_get nodes k ≡ Some node → kept k ≡ true
    → so_far ++ kept_nodes kept numbers k (drop k nodes) ≡ all
    → (so_far ++ renumbered numbers node ∷ []) ++ kept_nodes kept numbers (k + 1) (drop (k + 1) nodes) ≡ all
kept_node kept numbers so_far all nodes k node got is e =
    let later = kept_nodes kept numbers (k + 1) (drop (k + 1) nodes) in
    let here : kept_nodes kept numbers k (drop k nodes) ≡ renumbered numbers node ∷ later =
    ap (kept_nodes kept numbers k) (drop_got nodes k node got) ∙ rw is refl in
    append_assoc so_far (renumbered numbers node ∷ []) later ∙ ap (λ (z : List Node). so_far ++ z) (sym here) ∙ e

pub other_node : (kept : ℕ → Bool) (numbers : ℕ → ℕ) (so_far all nodes : List Node) (k : ℕ) → k < length nodes → kept k ≡ false
    → so_far ++ kept_nodes kept numbers k (drop k nodes) ≡ all
    → so_far ++ kept_nodes kept numbers (k + 1) (drop (k + 1) nodes) ≡ all
other_node kept numbers so_far all nodes k inside is e =
    let here : kept_nodes kept numbers k (drop k nodes) ≡ kept_nodes kept numbers (k + 1) (drop (k + 1) nodes) =
    ap (kept_nodes kept numbers k) (drop_more nodes k (Not (bases.Input 0)) inside) ∙ rw is refl in
    ap (λ (z : List Node). so_far ++ z) (sym here) ∙ e

-- ---- one mark

set_keeps : (marks : List Bool) (k j : ℕ) → bit_of marks j ≡ true → bit_of (set marks k true) j ≡ true
set_keeps [] k j is = is
set_keeps (b ∷ marks) zero zero is = refl
set_keeps (b ∷ marks) zero (suc j) is = is
set_keeps (b ∷ marks) (suc k) zero is = is
set_keeps (b ∷ marks) (suc k) (suc j) is = set_keeps marks k j is

set_marks : (marks : List Bool) (k : ℕ) → k < length marks → bit_of (set marks k true) k ≡ true
set_marks [] k inside = absurd (omega (arith, inside))
set_marks (b ∷ marks) zero inside = refl
set_marks (b ∷ marks) (suc k) inside = set_marks marks k (omega (arith, inside))

set_only : (marks : List Bool) (k j : ℕ) → bit_of (set marks k true) j ≡ true → (j ≡ k) ⊎ (bit_of marks j ≡ true)
set_only [] k j is = inr is
set_only (b ∷ marks) zero zero is = inl refl
set_only (b ∷ marks) zero (suc j) is = inr is
set_only (b ∷ marks) (suc k) zero is = inr is
set_only (b ∷ marks) (suc k) (suc j) is = elim (set_only marks k j is) as (λ _. (suc j ≡ suc k) ⊎ (bit_of marks j ≡ true)) [
  | inl same ↦ inl (ap suc same)
  | inr before ↦ inr before
]

length-set_bit : (marks : List Bool) (k : ℕ) → length (set marks k true) ≡ length marks
length-set_bit [] k = refl
length-set_bit (b ∷ marks) zero = refl
length-set_bit (b ∷ marks) (suc k) = ap suc (length-set_bit marks k)

-- ---- marks of some bases

mark_keeps : (marks : List Bool) (base : Base) (j : ℕ) → bit_of marks j ≡ true → bit_of (with_mark marks base) j ≡ true
mark_keeps marks (bases.Input i) j is = is
mark_keeps marks (bases.Node k) j is = set_keeps marks k j is

marks_keep : (marks : List Bool) (bs : List Base) (j : ℕ) → bit_of marks j ≡ true → bit_of (with_marks marks bs) j ≡ true
marks_keep marks [] j is = is
marks_keep marks (base ∷ bs) j is = marks_keep (with_mark marks base) bs j (mark_keeps marks base j is)

length-mark : (marks : List Bool) (base : Base) → length (with_mark marks base) ≡ length marks
length-mark marks (bases.Input i) = refl
length-mark marks (bases.Node k) = length-set_bit marks k

length-marks : (marks : List Bool) (bs : List Base) → length (with_marks marks bs) ≡ length marks
length-marks marks [] = refl
length-marks marks (base ∷ bs) = length-marks (with_mark marks base) bs ∙ length-mark marks base

mark_marks : (marks : List Bool) (n k : ℕ) (base : Base) → IsKnownBase n k base → k ≤ length marks
    → AreKept (bit_of (with_mark marks base)) (node_of base)
mark_marks marks n k (bases.Input i) known inside = tt
mark_marks marks n k (bases.Node j) known inside = (set_marks marks j (omega (arith, known, inside)), tt)

marks_mark : (marks : List Bool) (n k : ℕ) (bs : List Base) → AllByRecursion (IsKnownBase n k) bs → k ≤ length marks
    → AreKept (bit_of (with_marks marks bs)) (nodes_among bs)
marks_mark marks n k [] known inside = tt
marks_mark marks n k (base ∷ bs) known inside =
    let now = with_mark marks base in
    AllByRecursion-append (λ j. bit_of (with_marks now bs) j ≡ true) (node_of base) (nodes_among bs)
    (AllByRecursion-weaker (λ j. bit_of now j ≡ true) (λ j. bit_of (with_marks now bs) j ≡ true) (marks_keep now bs) (node_of base)
    (mark_marks marks n k base known.0 inside))
    (marks_mark now n k bs known.1 (omega (arith, inside, length-mark marks base)))

mark_only : (marks : List Bool) (base : Base) (j : ℕ) → bit_of (with_mark marks base) j ≡ true → IsAmong j (node_of base) ⊎ (bit_of marks j ≡ true)
mark_only marks (bases.Input i) j is = inr is
mark_only marks (bases.Node k) j is = elim (set_only marks k j is) as (λ _. IsAmong j (k ∷ []) ⊎ (bit_of marks j ≡ true)) [
  | inl same ↦ inl (inl same)
  | inr before ↦ inr before
]

marks_only : (marks : List Bool) (bs : List Base) (j : ℕ) → bit_of (with_marks marks bs) j ≡ true
    → IsAmong j (nodes_among bs) ⊎ (bit_of marks j ≡ true)
marks_only marks [] j is = inr is
marks_only marks (base ∷ bs) j is =
    elim (marks_only (with_mark marks base) bs j is) as (λ _. IsAmong j (node_of base ++ nodes_among bs) ⊎ (bit_of marks j ≡ true)) [
      | inl later ↦ inl (among_right j (node_of base) (nodes_among bs) later)
      | inr now ↦ elim (mark_only marks base j now) as (λ _. IsAmong j (node_of base ++ nodes_among bs) ⊎ (bit_of marks j ≡ true)) [
        | inl here ↦ inl (among_left j (node_of base) (nodes_among bs) here)
        | inr before ↦ inr before
      ]
    ]

-- ---- marks of all nodes

pub known_operands : (n k : ℕ) (node : Node) → IsKnownNode n k node → AllByRecursion (IsKnownBase n k) (operands node)
known_operands n k (Not a) known = (known, tt)
known_operands n k (Xor a b) known = (known.0, (known.1, tt))
known_operands n k (And a b) known = (known.0, (known.1, tt))

node_below : (n k : ℕ) (base : Base) → IsKnownBase n k base → (j : ℕ) → IsAmong j (node_of base) → j < k
node_below n k (bases.Input i) known j among = absurd among
node_below n k (bases.Node l) known j among = elim among as (λ _. j < k) [ inl same ↦ omega (arith, same, known) | inr none ↦ absurd none ]

pub nodes_below : (n k : ℕ) (bs : List Base) → AllByRecursion (IsKnownBase n k) bs → (j : ℕ) → IsAmong j (nodes_among bs) → j < k
nodes_below n k [] known j among = absurd among
nodes_below n k (base ∷ bs) known j among = elim (among_append j (node_of base) (nodes_among bs) among) as (λ _. j < k) [
  | inl here ↦ node_below n k base known.0 j here
  | inr later ↦ nodes_below n k bs known.1 j later
]

still_closed : (old new : ℕ → Bool) (k : ℕ) (xs : List Node) → ((u : ℕ) → k ≤ u → new u ≡ true → old u ≡ true)
    → ((j : ℕ) → old j ≡ true → new j ≡ true) → AreClosed old k xs → AreClosed new k xs
still_closed old new k [] fewer more closed = tt
still_closed old new k (x ∷ xs) fewer more closed = (
  λ is. AllByRecursion-weaker (λ j. old j ≡ true) (λ j. new j ≡ true) more (step_of x) (closed.0 (fewer k (omega arith) is)),
  still_closed old new (k + 1) xs (λ u above. fewer u (omega (arith, above))) more closed.1,
)

-- what is kept by the marks of the nodes from the k-th on
record IsMarked (g : GraphView) (start now : List Bool) (k : ℕ) (xs : List Node) : Type 0 where
  size : length now ≡ length start
  more : (j : ℕ) → bit_of start j ≡ true → bit_of now j ≡ true
  closed : AreClosed (bit_of now) k xs
  sound : (j : ℕ) → bit_of now j ≡ true → IsKept g j

operand_kept : (g : GraphView) (front : List Node) (x : Node) (xs : List Node) (k j : ℕ) → g.nodes ≡ front ++ x ∷ xs → length front ≡ k
    → IsKept g k → IsAmong j (step_of x) → IsKept g j
operand_kept g front x xs k j cut size kept among =
    let here : get_or (steps_of g) k [] ≡ step_of x =
    ap (λ (z : List Node). get_or (map step_of z) k []) cut
    ∙ ap (λ (z : ℕ). get_or (map step_of (front ++ x ∷ xs)) z []) (sym size)
    ∙ step_at front x xs in
    as_operand j k kept (subst (λ (z : List ℕ). IsAmong j z) (sym here) among)

node_marked : (g : GraphView) (n : ℕ) (start now : List Bool) (front : List Node) (x : Node) (xs : List Node) (k : ℕ)
    → g.nodes ≡ front ++ x ∷ xs → length front ≡ k → IsKnownNode n k x → k ≤ length start
    → (b : Bool) → bit_of now k ≡ b → IsMarked g start now (k + 1) xs
    → IsMarked g start (cond b (with_marks now (operands x)) now) k (x ∷ xs)
node_marked g n start now front x xs k cut size known inside true is marked =
    let new = with_marks now (operands x) in
    let bs_known = known_operands n k x known in
    record {
      size = length-marks now (operands x) ∙ marked.size;
      more = λ j before. marks_keep now (operands x) j (marked.more j before);
      closed = (
        λ here. marks_mark now n k (operands x) bs_known (omega (arith, inside, marked.size)),
        still_closed (bit_of now) (bit_of new) (k + 1) xs
            (λ u above here. elim (marks_only now (operands x) u here) as (λ _. bit_of now u ≡ true) [
              | inl among ↦ absurd (omega (arith, above, nodes_below n k (operands x) bs_known u among))
              | inr before ↦ before
            ])
            (marks_keep now (operands x)) marked.closed,
      );
      sound = λ j here. elim (marks_only now (operands x) j here) as (λ _. IsKept g j) [
        | inl among ↦ operand_kept g front x xs k j cut size (marked.sound k is) among
        | inr before ↦ marked.sound j before
      ];
    }
node_marked g n start now front x xs k cut size known inside false is marked = record {
  size = marked.size;
  more = marked.more;
  closed = (λ here. absurd (let clash : true ≡ false = sym here ∙ is in cc), marked.closed);
  sound = marked.sound;
}

nodes_marked : (g : GraphView) (n : ℕ) (start : List Bool) (front xs : List Node) (k : ℕ) → g.nodes ≡ front ++ xs → length front ≡ k
    → AreKnownNodes n k xs → k + length xs ≤ length start → ((j : ℕ) → bit_of start j ≡ true → IsKept g j)
    → IsMarked g start (with_nodes start k xs) k xs
nodes_marked g n start front [] k cut size known inside sound = record { size = refl; more = λ j is. is; closed = tt; sound = sound }
nodes_marked g n start front (x ∷ xs) k cut size known inside sound =
    let later = nodes_marked g n start (front ++ x ∷ []) xs (k + 1) (cut ∙ sym (append_assoc front (x ∷ []) xs))
    (length-append front (x ∷ []) ∙ omega (arith, size)) known.1 (omega (arith, inside)) sound in
    node_marked g n start (with_nodes start (k + 1) xs) front x xs k cut size known.0 (omega (arith, inside))
    (bit_of (with_nodes start (k + 1) xs) k) refl later

-- ---- the marks of a graph

no_marks : (n j : ℕ) → bit_of (replicate n false) j ≡ true → ⊥
no_marks zero j is = cc
no_marks (suc n) zero is = cc
no_marks (suc n) (suc j) is = no_marks n j is

known_outputs : (n k : ℕ) (outs : List Sig) → AllByRecursion (IsKnownSig n k) outs → AllByRecursion (IsKnownBase n k) (flat_map base_of outs)
known_outputs n k [] known = tt
known_outputs n k (Const bit ∷ outs) known = known_outputs n k outs known.1
known_outputs n k (Is base ∷ outs) known = (known.0, known_outputs n k outs known.1)

pub marks_are_closed : (g : GraphView) (marks : List Bool) → IsGraph g
    → marks ≡ with_nodes (with_marks (replicate (length g.nodes) false) (flat_map base_of g.outputs)) 0 g.nodes
    → IsClosed g (bit_of marks)
marks_are_closed g marks is e =
    let n = length g.nodes in
    let start = with_marks (replicate n false) (flat_map base_of g.outputs) in
    let size : length start ≡ n = length-marks (replicate n false) (flat_map base_of g.outputs) ∙ length-replicate n false in
    let marked = nodes_marked g g.inputs start [] g.nodes 0 refl refl is.nodes (omega (arith, size))
    (λ j here. elim (marks_only (replicate n false) (flat_map base_of g.outputs) j here) as (λ _. IsKept g j) [
      | inl among ↦ as_output j among
      | inr before ↦ absurd (no_marks n j before)
    ]) in
    subst (λ (z : List Bool). IsClosed g (bit_of z)) (sym e) (record {
      outputs = AllByRecursion-weaker (λ j. bit_of start j ≡ true) (λ j. bit_of (with_nodes start 0 g.nodes) j ≡ true) marked.more (output_nodes g)
          (marks_mark (replicate n false) g.inputs n (flat_map base_of g.outputs) (known_outputs g.inputs n g.outputs is.outputs)
          (omega (arith, length-replicate n false)));
      nodes = marked.closed;
      sound = marked.sound;
    })

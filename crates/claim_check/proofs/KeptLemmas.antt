-- The kept part of a graph: its nodes are known ones, and its values are those of the graph.
use Rattle.std.proofs.Common.{◌≡◌, ◌≢◌, ℕ, ◌+◌, ◌<◌, Bool, true, false, not, inl, inr, List, [], ◌∷◌, ◌++◌, length, map, filter}
use Rattle.std.proofs.Common.{refl, sym, ap, ◌∙◌, subst, arith, length-append}
use Rattle.std.specs.Bool.{⊤}
use Rattle.std.specs.List.{AllByRecursion}
use Rattle.std.proofs.lemmas.Bool.{cases_Bool}
use Rattle.std.proofs.lemmas.List.{map_push}
use Rattle.list_facts.specs.Bits.{bit_of}
use Rattle.list_facts.specs.Lists.{below}
use Rattle.list_facts.proofs.AllLemmas.{AllByRecursion-left, AllByRecursion-right}
use Rattle.dependency_graph.specs.declared.node.Base.{Base}
use Rattle.dependency_graph.specs.declared.node.Base.TheVariants as bases
use Rattle.dependency_graph.specs.declared.node.Node.{Node}
use Rattle.dependency_graph.specs.declared.node.Node.TheVariants.{Not, Xor, And}
use Rattle.dependency_graph.specs.declared.node.Sig.{Sig}
use Rattle.dependency_graph.specs.declared.node.Sig.TheVariants.{Const, Is}
use Rattle.dependency_graph.specs.Graphs.{GraphView, IsKnownBase, IsKnownSig, IsKnownNode, AreKnownNodes, base_of, node_of, nodes_among, operands, output_nodes}
use Rattle.dependency_graph.specs.Graphs.{base_bit, sig_bit, node_bit, made_by}
use Rattle.dependency_graph.proofs.ReachLemmas.{one_number}
use Rattle.dependency_graph.proofs.TableLemmas.{step_of}
use Rattle.dependency_graph.proofs.ValueLemmas.{bit_stays, bit_last}
use Rattle.claim_check.specs.Kept.{IsKept, kept_nodes, rank, renumbered, renumbered_base, renumbered_sig}
use Rattle.claim_check.proofs.RankLemmas.{at_rank, filter_kept, filter_other, rank_kept, rank_other, rank_below, rank_one}

-- ---- what is kept

abbrev pub AreKept : (ℕ → Bool) → List ℕ → Type 0
AreKept kept ks = AllByRecursion (λ k. kept k ≡ true) ks

-- the operands of the kept ones of the nodes from the k-th on are kept
abbrev pub AreClosed : (ℕ → Bool) → ℕ → List Node → Type 0
AreClosed kept k [] = ⊤
AreClosed kept k (node ∷ rest) = (kept k ≡ true → AreKept kept (step_of node)) × AreClosed kept (k + 1) rest

-- the outputs are kept, and with each node its operands, and an output rests on each kept node
pub record IsClosed (g : GraphView) (kept : ℕ → Bool) : Type 0 where
  pub outputs : AreKept kept (output_nodes g)
  pub nodes : AreClosed kept 0 g.nodes
  pub sound : (k : ℕ) → kept k ≡ true → IsKept g k

abbrev pub AreKeptBases : (ℕ → Bool) → List Base → Type 0
AreKeptBases kept bs = AllByRecursion (λ base. AreKept kept (node_of base)) bs

pub kept_bases : (kept : ℕ → Bool) (bs : List Base) → AreKept kept (nodes_among bs) → AreKeptBases kept bs
kept_bases kept [] all = tt
kept_bases kept (base ∷ bs) all = (
  AllByRecursion-left (λ k. kept k ≡ true) (node_of base) (nodes_among bs) all,
  kept_bases kept bs (AllByRecursion-right (λ k. kept k ≡ true) (node_of base) (nodes_among bs) all),
)

-- ---- known nodes

pub base_known : (kept : ℕ → Bool) (n k : ℕ) (base : Base) → IsKnownBase n k base → AreKept kept (node_of base)
    → IsKnownBase n (rank kept k) (renumbered_base (rank kept) base)
base_known kept n k (bases.Input i) known is = known
base_known kept n k (bases.Node j) known is = rank_below kept j k is.0 known

same_nodes : (j k : ℕ) → bases.Node j ≡ bases.Node k → j ≡ k
same_nodes j k e = one_number j k (ap Is e)

still_different : (kept : ℕ → Bool) (a b : Base) → AreKept kept (node_of a) → AreKept kept (node_of b) → a ≢ b
    → renumbered_base (rank kept) a ≢ renumbered_base (rank kept) b
still_different kept (bases.Input i) (bases.Input j) p q ne = ne
still_different kept (bases.Input i) (bases.Node k) p q ne = λ e. absurd (let clash : bases.Input i ≡ bases.Node (rank kept k) = e in cc)
still_different kept (bases.Node j) (bases.Input i) p q ne = λ e. absurd (let clash : bases.Node (rank kept j) ≡ bases.Input i = e in cc)
still_different kept (bases.Node j) (bases.Node k) p q ne = λ e.
    ne (ap bases.Node (rank_one kept j k p.0 q.0 (same_nodes (rank kept j) (rank kept k) e)))

node_known : (kept : ℕ → Bool) (n k : ℕ) (node : Node) → IsKnownNode n k node → AreKeptBases kept (operands node)
    → IsKnownNode n (rank kept k) (renumbered (rank kept) node)
node_known kept n k (Not a) known is = base_known kept n k a known is.0
node_known kept n k (Xor a b) known is =
    (base_known kept n k a known.0 is.0, base_known kept n k b known.1 is.1.0, still_different kept a b is.0 is.1.0 known.2)
node_known kept n k (And a b) known is =
    (base_known kept n k a known.0 is.0, base_known kept n k b known.1 is.1.0, still_different kept a b is.0 is.1.0 known.2)

pub nodes_known : (kept : ℕ → Bool) (n k : ℕ) (xs : List Node) → AreKnownNodes n k xs → AreClosed kept k xs
    → AreKnownNodes n (rank kept k) (kept_nodes kept (rank kept) k xs)
nodes_known kept n k [] known closed = tt
nodes_known kept n k (x ∷ xs) known closed =
    let later = nodes_known kept n (k + 1) xs known.1 closed.1 in
    elim (cases_Bool (kept k)) [
      | inl is ↦ rw is (
        node_known kept n k x known.0 (kept_bases kept (operands x) (closed.0 is)),
        subst (λ (z : ℕ). AreKnownNodes n z (kept_nodes kept (rank kept) (k + 1) xs)) (rank_kept kept k is) later,
      )
      | inr other ↦ rw other
          (subst (λ (z : ℕ). AreKnownNodes n z (kept_nodes kept (rank kept) (k + 1) xs)) (rank_other kept k other) later)
    ]

-- ---- how many

pub length-kept : (kept : ℕ → Bool) (numbers : ℕ → ℕ) (k : ℕ) (xs : List Node)
    → rank kept k + length (kept_nodes kept numbers k xs) ≡ rank kept (k + length xs)
length-kept kept numbers k [] = let same : k ≡ k + 0 = omega arith in omega (arith, ap (rank kept) same)
length-kept kept numbers k (x ∷ xs) =
    let same : (k + 1) + length xs ≡ k + length (x ∷ xs) = omega arith in
    let later = length-kept kept numbers (k + 1) xs in
    elim (cases_Bool (kept k)) [
      | inl is ↦ rw is (omega (arith, later, rank_kept kept k is, ap (rank kept) same))
      | inr other ↦ rw other (omega (arith, later, rank_other kept k other, ap (rank kept) same))
    ]

-- ---- values

bit_made : (a : ℕ → Bool) (made : List Bool) (xs : List Node) (j : ℕ) → j < length made → bit_of (made_by a made xs) j ≡ bit_of made j
bit_made a made [] j low = refl
bit_made a made (x ∷ xs) j low =
    let bit = node_bit a made x in
    bit_made a (made ++ bit ∷ []) xs j (omega (arith, low, length-append made (bit ∷ []))) ∙ bit_stays made (bit ∷ []) j low

base_made : (a : ℕ → Bool) (made : List Bool) (xs : List Node) (n : ℕ) (base : Base) → IsKnownBase n (length made) base
    → base_bit a (made_by a made xs) base ≡ base_bit a made base
base_made a made xs n (bases.Input i) known = refl
base_made a made xs n (bases.Node j) known = bit_made a made xs j known

node_made : (a : ℕ → Bool) (made : List Bool) (xs : List Node) (n : ℕ) (node : Node) → IsKnownNode n (length made) node
    → node_bit a (made_by a made xs) node ≡ node_bit a made node
node_made a made xs n (Not c) known = ap not (base_made a made xs n c known)
node_made a made xs n (Xor c d) known = rw (base_made a made xs n c known.0, base_made a made xs n d known.1) refl
node_made a made xs n (And c d) known = rw (base_made a made xs n c known.0, base_made a made xs n d known.1) refl

-- the bits of the kept nodes below the k-th
abbrev pub kept_bits : (ℕ → Bool) → List Bool → ℕ → List Bool
kept_bits kept bits k = map (bit_of bits) (filter kept (below k))

base_value : (kept : ℕ → Bool) (a : ℕ → Bool) (bits : List Bool) (n k : ℕ) (base : Base) → IsKnownBase n k base → AreKept kept (node_of base)
    → base_bit a (kept_bits kept bits k) (renumbered_base (rank kept) base) ≡ base_bit a bits base
base_value kept a bits n k (bases.Input i) known is = refl
base_value kept a bits n k (bases.Node j) known is = at_rank kept (bit_of bits) k j false is.0 known

node_value : (kept : ℕ → Bool) (a : ℕ → Bool) (bits : List Bool) (n k : ℕ) (node : Node) → IsKnownNode n k node → AreKeptBases kept (operands node)
    → node_bit a (kept_bits kept bits k) (renumbered (rank kept) node) ≡ node_bit a bits node
node_value kept a bits n k (Not c) known is = ap not (base_value kept a bits n k c known is.0)
node_value kept a bits n k (Xor c d) known is =
    rw (base_value kept a bits n k c known.0 is.0, base_value kept a bits n k d known.1 is.1.0) refl
node_value kept a bits n k (And c d) known is =
    rw (base_value kept a bits n k c known.0 is.0, base_value kept a bits n k d known.1 is.1.0) refl

-- the kept nodes from the k-th on make the bits that are left, where those before have theirs
made_kept : (kept : ℕ → Bool) (a : ℕ → Bool) (bits made : List Bool) (n k : ℕ) (xs : List Node) → length made ≡ k → bits ≡ made_by a made xs
    → AreKnownNodes n k xs → AreClosed kept k xs
    → made_by a (kept_bits kept bits k) (kept_nodes kept (rank kept) k xs) ≡ kept_bits kept bits (k + length xs)
made_kept kept a bits made n k [] size is known closed = ap (kept_bits kept bits) (let same : k ≡ k + 0 = omega arith in same)
made_kept kept a bits made n k (x ∷ xs) size is known closed =
    let bit = node_bit a made x in
    let now = made ++ bit ∷ [] in
    let fits : IsKnownNode n (length made) x = subst (λ (z : ℕ). IsKnownNode n z x) (sym size) known.0 in
    let own : node_bit a bits x ≡ bit = ap (λ (z : List Bool). node_bit a z x) is ∙ node_made a made (x ∷ xs) n x fits in
    let here : bit_of bits k ≡ bit =
    ap (λ (z : List Bool). bit_of z k) is
    ∙ bit_made a now xs k (omega (arith, size, length-append made (bit ∷ [])))
    ∙ ap (bit_of now) (sym size)
    ∙ bit_last made bit in
    let later = made_kept kept a bits now n (k + 1) xs (omega (arith, size, length-append made (bit ∷ []))) is known.1 closed.1 in
    let end : kept_bits kept bits ((k + 1) + length xs) ≡ kept_bits kept bits (k + length (x ∷ xs)) =
    ap (kept_bits kept bits) (let same : (k + 1) + length xs ≡ k + length (x ∷ xs) = omega arith in same) in
    elim (cases_Bool (kept k)) [
      | inl is_kept ↦
          let value : node_bit a (kept_bits kept bits k) (renumbered (rank kept) x) ≡ bit_of bits k =
          node_value kept a bits n k x known.0 (kept_bases kept (operands x) (closed.0 is_kept)) ∙ own ∙ sym here in
          let more : kept_bits kept bits k ++ bit_of bits k ∷ [] ≡ kept_bits kept bits (k + 1) =
          sym (ap (map (bit_of bits)) (filter_kept kept k is_kept) ∙ map_push (bit_of bits) (filter kept (below k)) k) in
          rw is_kept
          (ap (λ (b : Bool). made_by a (kept_bits kept bits k ++ b ∷ []) (kept_nodes kept (rank kept) (k + 1) xs)) value
          ∙ ap (λ (z : List Bool). made_by a z (kept_nodes kept (rank kept) (k + 1) xs)) more
          ∙ later ∙ end)
      | inr other ↦
          let same : kept_bits kept bits k ≡ kept_bits kept bits (k + 1) = sym (ap (map (bit_of bits)) (filter_other kept k other)) in
          rw other (ap (λ (z : List Bool). made_by a z (kept_nodes kept (rank kept) (k + 1) xs)) same ∙ later ∙ end)
    ]

-- what is kept has its value in the kept part
pub sig_value : (g : GraphView) (kept : ℕ → Bool) (a : ℕ → Bool) (sig : Sig) → AreKnownNodes g.inputs 0 g.nodes → AreClosed kept 0 g.nodes
    → IsKnownSig g.inputs (length g.nodes) sig → AreKept kept (nodes_among (base_of sig))
    → sig_bit a (made_by a [] (kept_nodes kept (rank kept) 0 g.nodes)) (renumbered_sig (rank kept) sig) ≡ sig_bit a (made_by a [] g.nodes) sig
sig_value g kept a (Const bit) known closed fits is = refl
sig_value g kept a (Is base) known closed fits is =
    let bits = made_by a [] g.nodes in
    let made : made_by a [] (kept_nodes kept (rank kept) 0 g.nodes) ≡ kept_bits kept bits (length g.nodes) =
    made_kept kept a bits [] g.inputs 0 g.nodes refl refl known closed
    ∙ ap (kept_bits kept bits) (let same : 0 + length g.nodes ≡ length g.nodes = omega arith in same) in
    ap (λ (z : List Bool). base_bit a z (renumbered_base (rank kept) base)) made
    ∙ base_value kept a bits g.inputs (length g.nodes) base fits (kept_bases kept (base ∷ []) is).0

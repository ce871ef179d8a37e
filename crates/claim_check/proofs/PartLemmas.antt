-- What the code keeps of a tape's graph is its kept part, with all that is promised of it.
use Rattle.std.proofs.Common.{◌≡◌, ℕ, ◌+◌, ◌<◌, ◌≤◌, Bool, false, inl, inr, List, [], ◌∷◌, length, map, replicate, get_or}
use Rattle.std.proofs.Common.{refl, sym, ap, ◌∙◌, subst, arith}
use Rattle.std.specs.List.{AllByRecursion, flat_map}
use Rattle.std.proofs.lemmas.Bool.{cases_Bool}
use Rattle.std.proofs.lemmas.List.{length-map}
use Rattle.std.proofs.lemmas.List.Sums.{sum_by-cons}
use Rattle.list_facts.specs.Bits.{bit_of}
use Rattle.list_facts.specs.Lists.{below}
use Rattle.revs_tape.specs.Measures.{inputs_of}
use Rattle.revs_tape.specs.Tapes.{TapeView, IsTape}
use Rattle.dependency_graph.specs.declared.node.Base.{Base}
use Rattle.dependency_graph.specs.declared.node.Base.TheVariants as bases
use Rattle.dependency_graph.specs.declared.node.Node.{Node}
use Rattle.dependency_graph.specs.declared.node.Node.TheVariants.{Not, Xor, And}
use Rattle.dependency_graph.specs.declared.node.Sig.{Sig}
use Rattle.dependency_graph.specs.declared.node.Sig.TheVariants.{Const, Is}
use Rattle.dependency_graph.specs.Folds.{graph_of}
use Rattle.dependency_graph.specs.Graphs.{GraphView, IsGraph, IsKnownBase, IsKnownNode, IsKnownSig, AreKnownNodes, and_count, ands_in, base_of, sig_of}
use Rattle.dependency_graph.proofs.AndLemmas.{graph_ands}
use Rattle.dependency_graph.proofs.CutLemmas.{graphs_are_no_wider}
use Rattle.dependency_graph.proofs.FoldLemmas.{graph_is}
use Rattle.dependency_graph.proofs.TableLemmas.{at_below}
use Rattle.dependency_graph.proofs.ValueLemmas.{graph_of_tape}
use Rattle.claim_check.specs.Settled.{SettledView}
use Rattle.claim_check.specs.Kept.{kept_nodes, kept_part, rank, renumbered, renumbered_base, renumbered_sig}
use Rattle.claim_check.specs.Measures.{IsSettledPart}
use Rattle.claim_check.specs.inside.Marks.{number_in, with_marks, with_nodes}
use Rattle.claim_check.proofs.KeptLemmas.{IsClosed}
use Rattle.claim_check.proofs.MarkLemmas.{marks_are_closed}
use Rattle.claim_check.proofs.NoWiderLemmas.{part_is_no_wider}
use Rattle.claim_check.proofs.SettledLemmas.{own_writes, part_is_of, part_is_settled}
use Rattle.claim_check.proofs.UsedLemmas.{complete}

-- ---- the table of ranks

-- two ways to number the first n nodes
record AreOneBelow (f g : ℕ → ℕ) (n : ℕ) : Type 0 where
  are_one : (k : ℕ) → k < n → f k ≡ g k

same_base : (f g : ℕ → ℕ) (inputs n k : ℕ) (base : Base) → AreOneBelow f g n → k ≤ n → IsKnownBase inputs k base
    → renumbered_base f base ≡ renumbered_base g base
same_base f g inputs n k (bases.Input i) one le known = refl
same_base f g inputs n k (bases.Node j) one le known = ap bases.Node (one.are_one j (omega (arith, le, known)))

same_node : (f g : ℕ → ℕ) (inputs n k : ℕ) (node : Node) → AreOneBelow f g n → k ≤ n → IsKnownNode inputs k node → renumbered f node ≡ renumbered g node
same_node f g inputs n k (Not a) one le known = ap Not (same_base f g inputs n k a one le known)
same_node f g inputs n k (Xor a b) one le known =
    rw (same_base f g inputs n k a one le known.0, same_base f g inputs n k b one le known.1) refl
same_node f g inputs n k (And a b) one le known =
    rw (same_base f g inputs n k a one le known.0, same_base f g inputs n k b one le known.1) refl

same_nodes : (kept : ℕ → Bool) (f g : ℕ → ℕ) (inputs n k : ℕ) (xs : List Node) → AreOneBelow f g n → k + length xs ≤ n → AreKnownNodes inputs k xs
    → kept_nodes kept f k xs ≡ kept_nodes kept g k xs
same_nodes kept f g inputs n k [] one le known = refl
same_nodes kept f g inputs n k (x ∷ xs) one le known =
    let later = same_nodes kept f g inputs n (k + 1) xs one (omega (arith, le)) known.1 in
    elim (cases_Bool (kept k)) [
      | inl is ↦ rw is
          (ap (λ (z : Node). z ∷ kept_nodes kept f (k + 1) xs) (same_node f g inputs n k x one (omega (arith, le)) known.0)
          ∙ ap (λ (z : List Node). renumbered g x ∷ z) later)
      | inr other ↦ rw other later
    ]

same_sigs : (f g : ℕ → ℕ) (inputs n : ℕ) (sigs : List Sig) → AreOneBelow f g n → AllByRecursion (IsKnownSig inputs n) sigs
    → map (renumbered_sig f) sigs ≡ map (renumbered_sig g) sigs
same_sigs f g inputs n [] one known = refl
same_sigs f g inputs n (Const bit ∷ sigs) one known = ap (λ (z : List Sig). Const bit ∷ z) (same_sigs f g inputs n sigs one known.1)
same_sigs f g inputs n (Is base ∷ sigs) one known =
    ap (λ (z : Base). Is z ∷ map (renumbered_sig f) sigs) (same_base f g inputs n n base one (omega arith) known.0)
    ∙ ap (λ (z : List Sig). Is (renumbered_base g base) ∷ z) (same_sigs f g inputs n sigs one known.1)

-- ---- the ANDs

same_count : (numbers : ℕ → ℕ) (node : Node) → and_count (renumbered numbers node) ≡ and_count node
same_count numbers (Not a) = refl
same_count numbers (Xor a b) = refl
same_count numbers (And a b) = refl

kept_ands : (kept : ℕ → Bool) (numbers : ℕ → ℕ) (k : ℕ) (nodes : List Node) → ands_in (kept_nodes kept numbers k nodes) ≤ ands_in nodes
kept_ands kept numbers k [] = omega arith
kept_ands kept numbers k (node ∷ rest) =
    let later = kept_nodes kept numbers (k + 1) rest in
    elim (cases_Bool (kept k)) [
      | inl is ↦ rw is (omega (
        arith,
        kept_ands kept numbers (k + 1) rest,
        same_count numbers node,
        sum_by-cons and_count (renumbered numbers node) later,
        sum_by-cons and_count node rest,
      ))
      | inr other ↦ rw other (omega (arith, kept_ands kept numbers (k + 1) rest, sum_by-cons and_count node rest))
    ]

-- ---- the kept part of a tape's graph

whole_part : (t : TapeView) (kept : ℕ → Bool) → IsTape t → IsClosed (graph_of t) kept → IsSettledPart t (graph_of t) (kept_part (graph_of t) kept)
whole_part t kept is closed =
    let g = graph_of t in
    let graph = graph_is t is in
    let of = graph_of_tape t is in
    record {
      part = record {
        kept = kept;
        exactly = λ k low. (closed.sound k, complete g kept closed);
        is = refl;
      };
      settled = part_is_settled g kept graph closed is.widths.inputs (omega (arith, is.few_outputs, length-map t.outputs (sig_of g.sigs)));
      of_tape = part_is_of t g kept of graph closed;
      no_larger = record {
        cuts = λ width has. part_is_no_wider g kept width closed (graphs_are_no_wider t width has);
        writes = own_writes t g kept of graph closed;
        ands = omega (arith, kept_ands kept (rank kept) 0 g.nodes, graph_ands t);
      };
    }

-- what the code has made
pub record IsMade (t : TapeView) (g : GraphView) (marks : List Bool) (table : List ℕ) (s : SettledView) : Type 0 where
  pub tape : IsTape t
  pub graph : g ≡ graph_of t
  pub marked : marks ≡ with_nodes (with_marks (replicate (length g.nodes) false) (flat_map base_of g.outputs)) 0 g.nodes
  pub one_each : length marks ≡ length g.nodes
  pub ranked : table ≡ map (rank (bit_of marks)) (below (length marks))
  pub inputs : s.inputs ≡ inputs_of t
  pub nodes : s.nodes ≡ kept_nodes (bit_of marks) (number_in table) 0 g.nodes
  pub outputs : s.outputs ≡ map (renumbered_sig (number_in table)) g.outputs

pub made_part : (t : TapeView) (g : GraphView) (marks : List Bool) (table : List ℕ) (s : SettledView) → IsMade t g marks table s → IsSettledPart t g s
made_part t g marks table s made =
    let kept = bit_of marks in
    let n = length g.nodes in
    let is : IsGraph g = subst IsGraph (sym made.graph) (graph_is t made.tape) in
    let closed : IsClosed g kept = marks_are_closed g marks is made.marked in
    let one : AreOneBelow (number_in table) (rank kept) n = record {
      are_one = λ k low.
          ap (λ (z : List ℕ). get_or z k 0) made.ranked
          ∙ at_below (rank kept) (length marks) k 0 (omega (arith, low, made.one_each));
    } in
    let nodes : s.nodes ≡ (kept_part g kept).nodes =
    made.nodes ∙ same_nodes kept (number_in table) (rank kept) g.inputs n 0 g.nodes one (omega arith) is.nodes in
    let outputs : s.outputs ≡ (kept_part g kept).outputs = made.outputs ∙ same_sigs (number_in table) (rank kept) g.inputs n g.outputs one is.outputs in
    let inputs : s.inputs ≡ (kept_part g kept).inputs = made.inputs ∙ sym (ap (λ (z : GraphView). z.inputs) made.graph) in
    let same : kept_part g kept ≡ s =
    ap (λ (z : ℕ). record { inputs = z; nodes = (kept_part g kept).nodes; outputs = (kept_part g kept).outputs }) (sym inputs)
    ∙ ap (λ (z : List Node). record { inputs = s.inputs; nodes = z; outputs = (kept_part g kept).outputs }) (sym nodes)
    ∙ ap (λ (z : List Sig). record { inputs = s.inputs; nodes = s.nodes; outputs = z }) (sym outputs) in
    subst (λ (z : SettledView). IsSettledPart t g z) same
    (subst (λ (z : GraphView). IsSettledPart t z (kept_part z kept)) (sym made.graph)
    (whole_part t kept made.tape (subst (λ (z : GraphView). IsClosed z kept) made.graph closed)))

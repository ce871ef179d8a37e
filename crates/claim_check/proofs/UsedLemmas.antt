-- The nodes of a kept part as steps: which are outputs and operands there.
use Rattle.std.proofs.Common.{◌≡◌, ℕ, zero, suc, ◌+◌, ◌<◌, ◌≤◌, ◌==◌, Bool, true, false, ◌||◌, inl, inr, List, [], ◌∷◌, ◌++◌, length, map, take, drop}
use Rattle.std.proofs.Common.{get_or, refl, sym, ap, ◌∙◌, subst, arith, length-append}
use Rattle.std.specs.List.{flat_map, list_any}
use Rattle.std.proofs.lemmas.Bool.{cases_Bool, cases_lt, eqb-true, eq-eqb}
use Rattle.list_facts.specs.Lists.{IsAmong}
use Rattle.list_facts.proofs.AmongLemmas.{among_map, all_among}
use Rattle.list_facts.proofs.CutLemmas.{cut_at, length-take_below}
use Rattle.revs_tape.specs.Cuts.{is_in}
use Rattle.dependency_graph.specs.declared.node.Base.{Base}
use Rattle.dependency_graph.specs.declared.node.Base.TheVariants as bases
use Rattle.dependency_graph.specs.declared.node.Node.{Node}
use Rattle.dependency_graph.specs.declared.node.Node.TheVariants.{Not, Xor, And}
use Rattle.dependency_graph.specs.declared.node.Sig.{Sig}
use Rattle.dependency_graph.specs.declared.node.Sig.TheVariants.{Const, Is}
use Rattle.dependency_graph.specs.Graphs.{GraphView, IsGraph, AreKnownNodes, base_of, nodes_among, operands, output_nodes, steps_of}
use Rattle.dependency_graph.specs.Uses.{last_use_in}
use Rattle.dependency_graph.proofs.TableLemmas.{step_of, step_at, length-steps_of}
use Rattle.dependency_graph.proofs.UseLemmas.{needed_later, or_left, or_right, some_from}
use Rattle.claim_check.specs.Settled.{as_graph}
use Rattle.claim_check.specs.Kept.{IsKept, as_output, as_operand, kept_nodes, kept_part, rank, renumbered, renumbered_base, renumbered_sig}
use Rattle.claim_check.proofs.RankLemmas.{rank_below, rank_of}
use Rattle.claim_check.proofs.MarkLemmas.{known_operands, nodes_below}
use Rattle.claim_check.proofs.KeptLemmas.{AreClosed, AreKept, IsClosed, length-kept}

-- ---- numbers in lists

pub is_in_from : (i : ℕ) (xs : List ℕ) → IsAmong i xs → is_in xs i ≡ true
is_in_from i [] k = absurd k
is_in_from i (x ∷ xs) k = elim k as (λ _. ((x == i) || is_in xs i) ≡ true) [
  | inl e ↦ or_left (x == i) (is_in xs i) (eq-eqb x i (sym e))
  | inr later ↦ or_right (x == i) (is_in xs i) (is_in_from i xs later)
]

pub from_is_in : (i : ℕ) (xs : List ℕ) → is_in xs i ≡ true → IsAmong i xs
from_is_in i [] e = absurd (let clash : false ≡ true = e in cc)
from_is_in i (x ∷ xs) e = elim (cases_Bool (x == i)) as (λ _. IsAmong i (x ∷ xs)) [
  | inl same ↦ inl (sym (eqb-true x i same))
  | inr other ↦ inr (from_is_in i xs (sym (rw other refl) ∙ e))
]

-- ---- renumbered steps

map_among : (f : ℕ → ℕ) (bs : List Base) → nodes_among (map (renumbered_base f) bs) ≡ map f (nodes_among bs)
map_among f [] = refl
map_among f (bases.Input i ∷ bs) = map_among f bs
map_among f (bases.Node k ∷ bs) = ap (λ (z : List ℕ). f k ∷ z) (map_among f bs)

pub renumbered_step : (f : ℕ → ℕ) (x : Node) → step_of (renumbered f x) ≡ map f (step_of x)
renumbered_step f (Not a) = map_among f (a ∷ [])
renumbered_step f (Xor a b) = map_among f (a ∷ b ∷ [])
renumbered_step f (And a b) = map_among f (a ∷ b ∷ [])

map_bases : (f : ℕ → ℕ) (outs : List Sig) → flat_map base_of (map (renumbered_sig f) outs) ≡ map (renumbered_base f) (flat_map base_of outs)
map_bases f [] = refl
map_bases f (Const bit ∷ outs) = map_bases f outs
map_bases f (Is base ∷ outs) = ap (λ (z : List Base). renumbered_base f base ∷ z) (map_bases f outs)

pub outputs_kept : (g : GraphView) (kept : ℕ → Bool) → output_nodes (as_graph (kept_part g kept)) ≡ map (rank kept) (output_nodes g)
outputs_kept g kept = ap nodes_among (map_bases (rank kept) g.outputs) ∙ map_among (rank kept) (flat_map base_of g.outputs)

-- ---- the kept part cut at a node

pub kept_append : (kept : ℕ → Bool) (f : ℕ → ℕ) (k : ℕ) (xs ys : List Node)
    → kept_nodes kept f k (xs ++ ys) ≡ kept_nodes kept f k xs ++ kept_nodes kept f (k + length xs) ys
kept_append kept f k [] ys = let same : k ≡ k + 0 = omega arith in ap (λ (z : ℕ). kept_nodes kept f z ys) same
kept_append kept f k (x ∷ xs) ys =
    let same : (k + 1) + length xs ≡ k + length (x ∷ xs) = omega arith in
    let later : kept_nodes kept f (k + 1) (xs ++ ys) ≡ kept_nodes kept f (k + 1) xs ++ kept_nodes kept f (k + length (x ∷ xs)) ys =
    kept_append kept f (k + 1) xs ys ∙ ap (λ (z : ℕ). kept_nodes kept f (k + 1) xs ++ kept_nodes kept f z ys) same in
    elim (cases_Bool (kept k)) [
      | inl is ↦ rw is (ap (λ (z : List Node). renumbered f x ∷ z) later)
      | inr other ↦ rw other later
    ]

pub length-front : (kept : ℕ → Bool) (f : ℕ → ℕ) (front : List Node) (k : ℕ) → length front ≡ k → length (kept_nodes kept f 0 front) ≡ rank kept k
length-front kept f front k size =
    let same : 0 + length front ≡ k = omega (arith, size) in
    omega (arith, length-kept kept f 0 front, ap (rank kept) same)

-- the step of a kept node
kept_step : (kept : ℕ → Bool) (front : List Node) (x : Node) (behind : List Node) (k : ℕ) → length front ≡ k → kept k ≡ true
    → get_or (map step_of (kept_nodes kept (rank kept) 0 (front ++ x ∷ behind))) (rank kept k) [] ≡ map (rank kept) (step_of x)
kept_step kept front x behind k size is =
    let f = rank kept in
    let head = kept_nodes kept f 0 front in
    let tail = kept_nodes kept f (k + 1) behind in
    let cut : kept_nodes kept f 0 (front ++ x ∷ behind) ≡ head ++ renumbered f x ∷ tail =
    kept_append kept f 0 front (x ∷ behind)
    ∙ ap (λ (z : ℕ). head ++ kept_nodes kept f z (x ∷ behind)) (let same : 0 + length front ≡ k = omega (arith, size) in same)
    ∙ ap (λ (z : List Node). head ++ z) (rw is refl) in
    ap (λ (z : List Node). get_or (map step_of z) (rank kept k) []) cut
    ∙ ap (λ (z : ℕ). get_or (map step_of (head ++ renumbered f x ∷ tail)) z []) (sym (length-front kept f front k size))
    ∙ step_at head (renumbered f x) tail
    ∙ renumbered_step f x

-- ---- an output rests on exactly the kept nodes

closed_at : (kept : ℕ → Bool) (k : ℕ) (xs : List Node) (i : ℕ) → AreClosed kept k xs → kept (k + i) ≡ true
    → AreKept kept (get_or (map step_of xs) i [])
closed_at kept k [] i closed is = tt
closed_at kept k (x ∷ xs) zero closed is = closed.0 (ap kept (let same : k ≡ k + 0 = omega arith in same) ∙ is)
closed_at kept k (x ∷ xs) (suc i) closed is =
    closed_at kept (k + 1) xs i closed.1 (ap kept (let same : (k + 1) + i ≡ k + suc i = omega arith in same) ∙ is)

pub complete : (g : GraphView) (kept : ℕ → Bool) → IsClosed g kept → {k : ℕ} → IsKept g k → kept k ≡ true
complete g kept closed (as_output k among) = all_among (λ j. kept j ≡ true) (output_nodes g) closed.outputs k among
complete g kept closed (as_operand k reader it among) =
    let is : kept (0 + reader) ≡ true = ap kept (let same : 0 + reader ≡ reader = omega arith in same) ∙ complete g kept closed it in
    all_among (λ j. kept j ≡ true) (get_or (steps_of g) reader []) (closed_at kept 0 g.nodes reader closed.nodes is) k among

-- ---- each kept node is used

-- node k is an operand of this node
record IsOperand (g : GraphView) (k reader : ℕ) : Type 0 where
  front : List Node
  node : Node
  behind : List Node
  cut : g.nodes ≡ front ++ node ∷ behind
  size : length front ≡ reader
  among : IsAmong k (step_of node)
  low : k + 1 ≤ reader

known_at : (n k : ℕ) (front : List Node) (x : Node) (behind : List Node) → AreKnownNodes n k (front ++ x ∷ behind)
    → (j : ℕ) → IsAmong j (step_of x) → j < k + length front
known_at n k [] x behind known j among = omega (arith, nodes_below n k (operands x) (known_operands n k x known.0) j among)
known_at n k (y ∷ front) x behind known j among = omega (arith, known_at n (k + 1) front x behind known.1 j among)

no_step : (steps : List (List ℕ)) (i j : ℕ) → length steps ≤ i → IsAmong j (get_or steps i []) → ⊥
no_step [] i j past among = among
no_step (s ∷ steps) zero j past among = absurd (omega (arith, past))
no_step (s ∷ steps) (suc i) j past among = no_step steps i j (omega (arith, past)) among

is_operand : (g : GraphView) (k reader : ℕ) → IsGraph g → IsAmong k (get_or (steps_of g) reader []) → IsOperand g k reader
is_operand g k reader is among = elim (cases_lt reader (length g.nodes)) as (λ _. IsOperand g k reader) [
  | inr past ↦ absurd (no_step (steps_of g) reader k (omega (arith, past, length-steps_of g)) among)
  | inl inside ↦
      let default : Node = Not (bases.Input 0) in
      let front = take reader g.nodes in
      let x = get_or g.nodes reader default in
      let behind = drop (suc reader) g.nodes in
      let cut : g.nodes ≡ front ++ x ∷ behind = cut_at g.nodes reader default inside in
      let size : length front ≡ reader = length-take_below g.nodes reader inside in
      let here : get_or (steps_of g) reader [] ≡ step_of x =
      ap (λ (z : List Node). get_or (map step_of z) reader []) cut
      ∙ ap (λ (z : ℕ). get_or (map step_of (front ++ x ∷ behind)) z []) (sym size)
      ∙ step_at front x behind in
      let own : IsAmong k (step_of x) = subst (λ (z : List ℕ). IsAmong k z) here among in
      record {
        front = front;
        node = x;
        behind = behind;
        cut = cut;
        size = size;
        among = own;
        low = omega (arith, size, known_at g.inputs 0 front x behind (subst (AreKnownNodes g.inputs 0) cut is.nodes) k own);
      }
]

-- a kept operand of a kept node is one of its new number
read_there : (g : GraphView) (kept : ℕ → Bool) (k reader : ℕ) → IsOperand g k reader → kept k ≡ true → kept reader ≡ true
    → is_in (get_or (steps_of (as_graph (kept_part g kept))) (rank kept reader) []) (rank kept k) ≡ true
read_there g kept k reader there is also =
    let f = rank kept in
    let step : get_or (map step_of (kept_nodes kept f 0 g.nodes)) (f reader) [] ≡ map f (step_of there.node) =
    ap (λ (z : List Node). get_or (map step_of (kept_nodes kept f 0 z)) (f reader) []) there.cut
    ∙ kept_step kept there.front there.node there.behind reader there.size also in
    ap (λ (z : List ℕ). is_in z (f k)) step
    ∙ is_in_from (f k) (map f (step_of there.node)) (among_map f k (step_of there.node) there.among)

pub length-part : (g : GraphView) (kept : ℕ → Bool) → length (kept_part g kept).nodes ≡ rank kept (length g.nodes)
length-part g kept = length-front kept (rank kept) g.nodes (length g.nodes) refl

used_so : (g : GraphView) (kept : ℕ → Bool) → IsGraph g → IsClosed g kept → {k : ℕ} → IsKept g k → k < length g.nodes
    → rank kept k < last_use_in (as_graph (kept_part g kept)) (rank kept k)
used_so g kept is closed (as_output k among) low =
    let s = as_graph (kept_part g kept) in
    let f = rank kept in
    let inside : f k + 1 ≤ length (steps_of s) =
    omega (arith, length-steps_of s, length-part g kept, rank_below kept k (length g.nodes) (complete g kept closed (as_output k among)) low) in
    let out : is_in (output_nodes s) (f k) ≡ true =
    ap (λ (z : List ℕ). is_in z (f k)) (outputs_kept g kept) ∙ is_in_from (f k) (map f (output_nodes g)) (among_map f k (output_nodes g) among) in
    omega (
      arith,
      needed_later (steps_of s) (output_nodes s) (f k) (f k + 1) inside
          (or_left (is_in (output_nodes s) (f k)) (list_any (λ reads. is_in reads (f k)) (drop (f k + 1) (steps_of s))) out),
    )
used_so g kept is closed (as_operand k reader it among) low =
    let s = as_graph (kept_part g kept) in
    let f = rank kept in
    let own = complete g kept closed (as_operand k reader it among) in
    let also = complete g kept closed it in
    let there = is_operand g k reader is among in
    let within : reader + 1 ≤ length g.nodes =
    omega (arith, there.size, ap length there.cut, length-append there.front (there.node ∷ there.behind)) in
    let up : f k < f reader = rank_below kept k reader own (omega (arith, there.low)) in
    let top : f reader < length (steps_of s) =
    omega (arith, length-steps_of s, length-part g kept, rank_below kept reader (length g.nodes) also (omega (arith, within))) in
    omega (
      arith,
      needed_later (steps_of s) (output_nodes s) (f k) (f k + 1) (omega (arith, up, top))
          (or_right (is_in (output_nodes s) (f k)) (list_any (λ reads. is_in reads (f k)) (drop (f k + 1) (steps_of s)))
          (some_from (steps_of s) (f k) (f k + 1) (f reader) (omega (arith, up)) top (read_there g kept k reader there own also))),
    )

pub each_is_used : (g : GraphView) (kept : ℕ → Bool) → IsGraph g → IsClosed g kept → (number : ℕ) → number < length (kept_part g kept).nodes
    → number < last_use_in (as_graph (kept_part g kept)) number
each_is_used g kept is closed number low =
    let found = rank_of kept (length g.nodes) number (omega (arith, low, length-part g kept)) in
    subst (λ (z : ℕ). z < last_use_in (as_graph (kept_part g kept)) z) found.is
    (used_so g kept is closed (closed.sound found.at found.are_kept) (omega (arith, found.below)))

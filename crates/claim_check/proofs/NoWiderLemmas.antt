-- No cut of a kept part is longer than some cut of the graph.
use Rattle.std.proofs.Common.{◌≡◌, ℕ, ◌+◌, ◌≤◌, Bool, true, ◌||◌, inl, inr, List, [], ◌∷◌, ◌++◌, length, map, take, drop}
use Rattle.std.proofs.Common.{refl, sym, ap, ◌∙◌, subst, arith}
use Rattle.std.specs.List.{list_any}
use Rattle.std.proofs.lemmas.Bool.{cases_Bool}
use Rattle.std.proofs.lemmas.List.{length-map, length-take, map-append, take-append-drop}
use Rattle.std.proofs.Math.Nat.{min-eq_left}
use Rattle.list_facts.specs.Lists.{IsAmong, AnyByRecursion, AreApart, AreDifferent, below}
use Rattle.list_facts.proofs.AmongLemmas.{any_of, all_among, all_from_among, among_map, among_image}
use Rattle.list_facts.proofs.CountingLemmas.{no_more}
use Rattle.list_facts.proofs.OrderLemmas.{AreDifferent-rising, among_below, below_bound}
use Rattle.revs_tape.specs.Cuts.{is_in, is_needed}
use Rattle.dependency_graph.specs.declared.node.Node.{Node}
use Rattle.dependency_graph.specs.Graphs.{GraphView, output_nodes, steps_of}
use Rattle.dependency_graph.specs.Uses.{cut_in}
use Rattle.dependency_graph.specs.Widths.{IsNoWider}
use Rattle.dependency_graph.proofs.CutLemmas.{filter_among, or_else}
use Rattle.dependency_graph.proofs.TableLemmas.{step_of, length-steps_of}
use Rattle.dependency_graph.proofs.UseLemmas.{among_filter, filter_passes, or_left, or_right, rising_cut}
use Rattle.claim_check.specs.Settled.{as_graph}
use Rattle.claim_check.specs.Kept.{kept_nodes, kept_part, rank, renumbered}
use Rattle.claim_check.proofs.RankLemmas.{has_rank, rank_of, rank_one}
use Rattle.claim_check.proofs.KeptLemmas.{AreClosed, AreKept, IsClosed}
use Rattle.claim_check.proofs.UsedLemmas.{from_is_in, is_in_from, kept_append, length-front, length-part, outputs_kept, renumbered_step}

-- ---- a member of a cut

-- a kept one among these, by its rank
among_back : (kept : ℕ → Bool) (k : ℕ) (ks : List ℕ) → kept k ≡ true → AreKept kept ks → is_in (map (rank kept) ks) (rank kept k) ≡ true → is_in ks k ≡ true
among_back kept k ks is all e =
    let found = among_image (rank kept) (rank kept k) ks (from_is_in (rank kept k) (map (rank kept) ks) e) in
    let same : k ≡ found.0 = rank_one kept k found.0 is (all_among (λ j. kept j ≡ true) ks all found.0 found.1) found.2 in
    is_in_from k ks (subst (λ (z : ℕ). IsAmong z ks) (sym same) found.1)

-- it is an operand of a kept node, and so of a node
read_back : (kept : ℕ → Bool) (k at : ℕ) (xs : List Node) → kept k ≡ true → AreClosed kept at xs
    → list_any (λ reads. is_in reads (rank kept k)) (map step_of (kept_nodes kept (rank kept) at xs)) ≡ true
    → list_any (λ reads. is_in reads k) (map step_of xs) ≡ true
read_back kept k at [] is closed e = e
read_back kept k at (x ∷ xs) is closed e =
    let here = is_in (step_of x) k in
    let later = list_any (λ reads. is_in reads k) (map step_of xs) in
    let rest = list_any (λ reads. is_in reads (rank kept k)) (map step_of (kept_nodes kept (rank kept) (at + 1) xs)) in
    elim (cases_Bool (kept at)) as (λ _. (here || later) ≡ true) [
      | inl read ↦
          let new = is_in (step_of (renumbered (rank kept) x)) (rank kept k) in
          let some : (new || rest) ≡ true = sym (rw read refl) ∙ e in
          elim (cases_Bool new) as (λ _. (here || later) ≡ true) [
            | inl now ↦ or_left here later (among_back kept k (step_of x) is (closed.0 read)
                (sym (ap (λ (z : List ℕ). is_in z (rank kept k)) (renumbered_step (rank kept) x)) ∙ now))
            | inr other ↦ or_right here later (read_back kept k (at + 1) xs is closed.1 (or_else new rest other some))
          ]
      | inr other ↦ or_right here later (read_back kept k (at + 1) xs is closed.1 (sym (rw other refl) ∙ e))
    ]

drop_front : {A : Type 0} (xs ys : List A) (k : ℕ) → length xs ≡ k → drop k (xs ++ ys) ≡ ys
drop_front [] ys k size = ap (λ (z : ℕ). drop z ys) (sym size)
drop_front (x ∷ xs) ys k size = ap (λ (z : ℕ). drop z (x ∷ (xs ++ ys))) (sym size) ∙ drop_front xs ys (length xs) refl

closed_behind : (kept : ℕ → Bool) (k : ℕ) (xs ys : List Node) → AreClosed kept k (xs ++ ys) → AreClosed kept (k + length xs) ys
closed_behind kept k [] ys closed = subst (λ (z : ℕ). AreClosed kept z ys) (let same : k ≡ k + 0 = omega arith in same) closed
closed_behind kept k (x ∷ xs) ys closed =
    subst (λ (z : ℕ). AreClosed kept z ys) (let same : (k + 1) + length xs ≡ k + length (x ∷ xs) = omega arith in same)
    (closed_behind kept (k + 1) xs ys closed.1)

steps_behind : (front behind : List Node) (k : ℕ) → length front ≡ k → drop k (map step_of (front ++ behind)) ≡ map step_of behind
steps_behind front behind k size =
    ap (drop k) (map-append step_of front behind) ∙ drop_front (map step_of front) (map step_of behind) k (length-map front step_of ∙ size)

needed_at : (g : GraphView) (kept : ℕ → Bool) (k j : ℕ) (front behind : List Node) → g.nodes ≡ front ++ behind → length front ≡ j
    → IsClosed g kept → kept k ≡ true
    → is_needed (steps_of (as_graph (kept_part g kept))) (output_nodes (as_graph (kept_part g kept))) (rank kept j) (rank kept k) ≡ true
    → is_needed (steps_of g) (output_nodes g) j k ≡ true
needed_at g kept k j front behind cut size closed is e =
    let f = rank kept in
    let s = as_graph (kept_part g kept) in
    let out = is_in (output_nodes g) k in
    let later = list_any (λ reads. is_in reads k) (drop j (steps_of g)) in
    let new = is_in (output_nodes s) (f k) in
    let rest = list_any (λ reads. is_in reads (f k)) (drop (f j) (steps_of s)) in
    let start : 0 + length front ≡ j = omega (arith, size) in
    elim (cases_Bool new) as (λ _. (out || later) ≡ true) [
      | inl now ↦ or_left out later (among_back kept k (output_nodes g) is closed.outputs
          (sym (ap (λ (z : List ℕ). is_in z (f k)) (outputs_kept g kept)) ∙ now))
      | inr other ↦
          let theirs : drop (f j) (steps_of s) ≡ map step_of (kept_nodes kept f j behind) =
          ap (λ (z : List Node). drop (f j) (map step_of (kept_nodes kept f 0 z))) cut
          ∙ ap (λ (z : List Node). drop (f j) (map step_of z)) (kept_append kept f 0 front behind)
          ∙ ap (λ (z : ℕ). drop (f j) (map step_of (kept_nodes kept f 0 front ++ kept_nodes kept f z behind))) start
          ∙ steps_behind (kept_nodes kept f 0 front) (kept_nodes kept f j behind) (f j) (length-front kept f front j size) in
          let ours : drop j (steps_of g) ≡ map step_of behind = ap (λ (z : List Node). drop j (map step_of z)) cut ∙ steps_behind front behind j size in
          let part : AreClosed kept j behind =
          subst (λ (z : ℕ). AreClosed kept z behind) start (closed_behind kept 0 front behind (subst (AreClosed kept 0) cut closed.nodes)) in
          or_right out later
          (ap (λ (z : List (List ℕ)). list_any (λ reads. is_in reads k) z) ours
          ∙ read_back kept k j behind is part
          (sym (ap (λ (z : List (List ℕ)). list_any (λ reads. is_in reads (f k)) z) theirs) ∙ or_else new rest other e))
    ]

needed_back : (g : GraphView) (kept : ℕ → Bool) (k j : ℕ) → IsClosed g kept → kept k ≡ true → j ≤ length g.nodes
    → is_needed (steps_of (as_graph (kept_part g kept))) (output_nodes (as_graph (kept_part g kept))) (rank kept j) (rank kept k) ≡ true
    → is_needed (steps_of g) (output_nodes g) j k ≡ true
needed_back g kept k j closed is inside e =
    needed_at g kept k j (take j g.nodes) (drop j g.nodes) (sym (take-append-drop j g.nodes))
    (length-take j g.nodes ∙ min-eq_left inside) closed is e

-- ---- counting

record IsMember (g : GraphView) (kept : ℕ → Bool) (j number : ℕ) : Type 0 where
  at : ℕ
  among : IsAmong at (cut_in g j)
  is : rank kept at ≡ number

member_back : (g : GraphView) (kept : ℕ → Bool) (j number : ℕ) → IsClosed g kept → j ≤ length g.nodes
    → IsAmong number (cut_in (as_graph (kept_part g kept)) (rank kept j)) → IsMember g kept j number
member_back g kept j number closed inside among =
    let s = as_graph (kept_part g kept) in
    let test = is_needed (steps_of s) (output_nodes s) (rank kept j) in
    let found = rank_of kept j number (below_bound (rank kept j) number (filter_among test number (below (rank kept j)) among)) in
    let needed : test (rank kept found.at) ≡ true = ap test found.is ∙ filter_passes test number (below (rank kept j)) among in
    record {
      at = found.at;
      among = among_filter (is_needed (steps_of g) (output_nodes g) j) found.at (below j) (among_below j found.at (omega (arith, found.below)))
          (needed_back g kept found.at j closed found.are_kept inside needed);
      is = found.is;
    }

apart : (ks : List ℕ) → AreDifferent ks → AreApart (λ (x y : ℕ). x ≡ y) ks
apart [] d = tt
apart (k ∷ ks) d = (d.0, apart ks d.1)

no_cut_is_longer : (g : GraphView) (kept : ℕ → Bool) (j : ℕ) → IsClosed g kept → j ≤ length g.nodes
    → length (cut_in (as_graph (kept_part g kept)) (rank kept j)) ≤ length (cut_in g j)
no_cut_is_longer g kept j closed inside =
    let s = as_graph (kept_part g kept) in
    let mine = cut_in s (rank kept j) in
    let theirs = cut_in g j in
    let few : length mine ≤ length (map (rank kept) theirs) =
    no_more (λ (x y : ℕ). x ≡ y) (λ x y e. sym e) (λ x y z e f. e ∙ f) mine (map (rank kept) theirs)
    (apart mine (AreDifferent-rising mine (rising_cut (steps_of s) (output_nodes s) (rank kept j))))
    (all_from_among (λ number. AnyByRecursion (λ (y : ℕ). number ≡ y) (map (rank kept) theirs)) mine
    (λ number among. let there = member_back g kept j number closed inside among in
    any_of (λ (y : ℕ). number ≡ y) (rank kept there.at) (map (rank kept) theirs) (among_map (rank kept) there.at theirs there.among) (sym there.is))) in
    omega (arith, few, length-map theirs (rank kept))

part_cut : (g : GraphView) (kept : ℕ → Bool) (most : ℕ) → IsClosed g kept → IsNoWider g most → (number : ℕ)
    → number ≤ length (kept_part g kept).nodes → length (cut_in (as_graph (kept_part g kept)) number) ≤ most
part_cut g kept most closed wide number inside =
    let place = has_rank kept (length g.nodes) number (omega (arith, inside, length-part g kept)) in
    subst (λ (z : ℕ). length (cut_in (as_graph (kept_part g kept)) z) ≤ most) place.is
    (let fewer = no_cut_is_longer g kept place.at closed place.inside in
    omega (arith, fewer, wide.cuts place.at place.inside))

pub part_is_no_wider : (g : GraphView) (kept : ℕ → Bool) (most : ℕ) → IsClosed g kept → IsNoWider g most
    → IsNoWider (as_graph (kept_part g kept)) most
part_is_no_wider g kept most closed wide = record {
  cuts = part_cut g kept most closed wide;
  width = λ own has. omega (
    arith,
    has.reached,
    part_cut g kept most closed wide has.at (omega (arith, has.inside, length-steps_of (as_graph (kept_part g kept)))),
  );
}

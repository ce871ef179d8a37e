-- Marks tell how often nodes are used.
use Rattle.std.proofs.Common.{◌≡◌, ◌≢◌, ℕ, zero, suc, ◌+◌, ◌≤◌, ◌<◌, Bool, true, false, cond, List, [], ◌∷◌, ◌++◌, length, map, take, slice_get, slice_set}
use Rattle.std.proofs.Common.{Some}
use Rattle.std.proofs.Common.{refl, sym, ap, ap₂, ◌∙◌, subst, inl, inr, arith, append_assoc, append-nil, replicate}
use Rattle.std.specs.List.{AllByRecursion, flat_map}
use Rattle.std.proofs.lemmas.Bool.{cases_eq, cases_lt, ne_eqb, true≢false}
use Rattle.std.proofs.lemmas.List.{get_or-set_other, get_or-set_same, get_or_past, length-map, length-set, take_all, take_more}
use Rattle.std.proofs.lemmas.List.Concat.{flat_map-append}
use Rattle.std.proofs.lemmas.Option.{get_or_from_slice_get, none-some, same_Some, slice_get_within}
use Rattle.list_facts.proofs.AllLemmas.{AllByRecursion-append, AllByRecursion-left, AllByRecursion-right, AllByRecursion-weaker}
use Rattle.dependency_graph.specs.declared.node.Base.{Base}
use Rattle.dependency_graph.specs.declared.node.Base.TheVariants as bases
use Rattle.dependency_graph.specs.declared.node.Node.{Node}
use Rattle.dependency_graph.specs.declared.node.Node.TheVariants.{Not, Xor, And}
use Rattle.dependency_graph.specs.declared.node.Sig.{Sig}
use Rattle.dependency_graph.specs.declared.node.Sig.TheVariants.{Const, Is}
use Rattle.dependency_graph.specs.Graphs.{IsKnownBase, IsKnownNode, IsKnownSig, base_of, node_of, nodes_among, operands}
use Rattle.claim_check.specs.Settled.{IsSettled, SettledView}
use Rattle.claim_check.proofs.NodeLemmas.{known_at}
use Rattle.sum_graph.specs.declared.shared.Use.{Use}
use Rattle.sum_graph.specs.declared.shared.Use.TheVariants.{Never, Once, Shared}
use Rattle.sum_graph.specs.inside.Marks.{AreMarked, AreNodesMarked, AreOutputsMarked, AreWithin, IsMark, after_use, is_shared_mark, mark_at, marked}
use Rattle.sum_graph.specs.inside.Marks.{marked_factor, marked_node, marked_output}
use Rattle.sum_graph.specs.Lone.{times_in, uses_in}
use Rattle.sum_graph.specs.inside.Walks.{AreShared, factors_of, is_shared}
use Rattle.sum_graph.proofs.UseLemmas.{times-append, times_first}

-- ---- a mark

-- the mark that is written, where there is one; what is no node counts as shared
written_mark : (marks : List Use) (k : ℕ) (x : Use) → (P : Use → Type 0) → P x → P Shared → P (mark_at (slice_set marks k x) k)
written_mark marks k x P is shared = elim (cases_lt k (length marks)) as (λ _. P (mark_at (slice_set marks k x) k)) [
  | inl within ↦ subst P (sym (get_or-set_same marks k x Shared within)) is
  | inr past ↦ subst P (sym (get_or_past (slice_set marks k x) k Shared (omega (arith, length-set marks k x, past)))) shared
]

other_times : (j k : ℕ) (uses : List ℕ) → j ≢ k → times_in j (uses ++ k ∷ []) ≡ times_in j uses
other_times j k uses ne =
    let none : times_in j (k ∷ []) ≡ 0 = ap (λ b. cond b 1 0 + 0) (ne_eqb j k ne) in
    omega (arith, times-append j uses (k ∷ []), none)

same_times : (k : ℕ) (uses : List ℕ) → times_in k (uses ++ k ∷ []) ≡ times_in k uses + 1
same_times k uses = omega (arith, times-append k uses (k ∷ []), times_first k [])

next_mark : (times : ℕ) (mark : Use) → IsMark times mark → IsMark (times + 1) (after_use mark)
next_mark times Never is = omega (arith, is)
next_mark times Once is = tt
next_mark times Shared is = tt

still_shared : (mark : Use) → mark ≡ Shared → after_use mark ≡ Shared
still_shared Never e = cc
still_shared Once e = refl
still_shared Shared e = refl

-- a shared mark stays so after any write that keeps it
stays_shared : (marks : List Use) (k : ℕ) (x : Use) → (mark_at marks k ≡ Shared → x ≡ Shared) → (j : ℕ) → mark_at marks j ≡ Shared
    → mark_at (slice_set marks k x) j ≡ Shared
stays_shared marks k x keeps j e = elim (cases_eq j k) as (λ _. mark_at (slice_set marks k x) j ≡ Shared) [
  | inl same ↦
      subst (λ i. mark_at (slice_set marks k x) i ≡ Shared) (sym same)
      (written_mark marks k x (λ m. m ≡ Shared) (keeps (ap (mark_at marks) (sym same) ∙ e)) refl)
  | inr ne ↦ let other : j ≢ k = ne in get_or-set_other marks k j x Shared other ∙ e
]

-- a mark that becomes shared by one use more was used before
used_twice : (times : ℕ) (mark : Use) → IsMark times mark → (mark ≡ Shared → 2 ≤ times) → after_use mark ≡ Shared → 2 ≤ times + 1
used_twice times Never is was e = cc
used_twice times Once is was e = omega (arith, is)
used_twice times Shared is was e = omega (arith, was refl)

-- what is no factor and was shared, with the uses so far
abbrev AreTwice : (ℕ → Bool) → List ℕ → List Use → Type 0
AreTwice lone uses marks = (k : ℕ) → k < length marks → lone k ≡ true → mark_at marks k ≡ Shared → 2 ≤ times_in k uses

twice_marked : (lone : ℕ → Bool) (k : ℕ) (uses : List ℕ) (marks : List Use) → ((j : ℕ) → IsMark (times_in j uses) (mark_at marks j))
    → AreTwice lone uses marks → AreTwice lone (uses ++ k ∷ []) (slice_set marks k (after_use (mark_at marks k)))
twice_marked lone k uses marks each twice j low here shared =
    let x = after_use (mark_at marks k) in
    let long : length (slice_set marks k x) ≡ length marks = length-set marks k x in
    elim (cases_eq j k) as (λ _. 2 ≤ times_in j (uses ++ k ∷ [])) [
      | inl same ↦
          let within : k < length marks = omega (arith, low, long, same) in
          let at : mark_at (slice_set marks k x) j ≡ x = ap (mark_at (slice_set marks k x)) same ∙ get_or-set_same marks k x Shared within in
          let was : mark_at marks k ≡ Shared → 2 ≤ times_in k uses = λ e. twice k within (sym (ap lone same) ∙ here) e in
          let more : times_in j (uses ++ k ∷ []) ≡ times_in k (uses ++ k ∷ []) = ap (λ i. times_in i (uses ++ k ∷ [])) same in
          omega (arith, more, same_times k uses, used_twice (times_in k uses) (mark_at marks k) (each k) was (sym at ∙ shared))
      | inr ne ↦
          let other : j ≢ k = ne in
          omega (
            arith,
            other_times j k uses other,
            twice j (omega (arith, low, long)) here (sym (get_or-set_other marks k j x Shared other) ∙ shared),
          )
    ]

-- no factor is of the set
twice_factor : (lone : ℕ → Bool) (k : ℕ) (uses : List ℕ) (marks : List Use) → lone k ≡ false → AreTwice lone uses marks
    → AreTwice lone (uses ++ k ∷ []) (slice_set marks k Shared)
twice_factor lone k uses marks none twice j low here shared =
    elim (cases_eq j k) as (λ _. 2 ≤ times_in j (uses ++ k ∷ [])) [
      | inl same ↦ absurd (true≢false (sym here ∙ ap lone same ∙ none))
      | inr ne ↦
          let other : j ≢ k = ne in
          omega (
            arith,
            other_times j k uses other,
            twice j (omega (arith, low, length-set marks k Shared)) here (sym (get_or-set_other marks k j Shared Shared other) ∙ shared),
          )
    ]

-- ---- a base

pub after_marked : (base : Base) (uses wanted : List ℕ) (marks : List Use) → AreMarked uses wanted marks
    → AreMarked (uses ++ node_of base) wanted (marked base marks)
after_marked (bases.Input i) uses wanted marks are = subst (λ l. AreMarked l wanted marks) (sym (append-nil uses)) are
after_marked (bases.Node k) uses wanted marks are =
    let x = after_use (mark_at marks k) in
    record {
      each = λ j. elim (cases_eq j k) as (λ _. IsMark (times_in j (uses ++ k ∷ [])) (mark_at (slice_set marks k x) j)) [
        | inl same ↦
            subst (λ i. IsMark (times_in i (uses ++ k ∷ [])) (mark_at (slice_set marks k x) i)) (sym same)
            (written_mark marks k x (IsMark (times_in k (uses ++ k ∷ [])))
            (subst (λ n. IsMark n x) (sym (same_times k uses)) (next_mark (times_in k uses) (mark_at marks k) (are.each k))) tt)
        | inr ne ↦
            let other : j ≢ k = ne in
            subst (λ n. IsMark n (mark_at (slice_set marks k x) j)) (sym (other_times j k uses other))
            (subst (IsMark (times_in j uses)) (sym (get_or-set_other marks k j x Shared other)) (are.each j))
      ];
      factors = AllByRecursion-weaker (λ j. mark_at marks j ≡ Shared) (λ j. mark_at (slice_set marks k x) j ≡ Shared)
          (stays_shared marks k x (still_shared (mark_at marks k))) wanted are.factors;
      only = λ lone none. twice_marked lone k uses marks are.each (are.only lone none);
    }

pub after_factor : (base : Base) (uses wanted : List ℕ) (marks : List Use) → AreMarked uses wanted marks
    → AreMarked (uses ++ node_of base) (wanted ++ node_of base) (marked_factor base marks)
after_factor (bases.Input i) uses wanted marks are =
    subst (λ l. AreMarked l (wanted ++ []) marks) (sym (append-nil uses)) (subst (λ l. AreMarked uses l marks) (sym (append-nil wanted)) are)
after_factor (bases.Node k) uses wanted marks are = record {
  each = λ j. elim (cases_eq j k) as (λ _. IsMark (times_in j (uses ++ k ∷ [])) (mark_at (slice_set marks k Shared) j)) [
    | inl same ↦
        subst (λ i. IsMark (times_in i (uses ++ k ∷ [])) (mark_at (slice_set marks k Shared) i)) (sym same)
        (written_mark marks k Shared (IsMark (times_in k (uses ++ k ∷ []))) tt tt)
    | inr ne ↦
        let other : j ≢ k = ne in
        subst (λ n. IsMark n (mark_at (slice_set marks k Shared) j)) (sym (other_times j k uses other))
        (subst (IsMark (times_in j uses)) (sym (get_or-set_other marks k j Shared Shared other)) (are.each j))
  ];
  factors = AllByRecursion-append (λ j. mark_at (slice_set marks k Shared) j ≡ Shared) wanted (k ∷ [])
      (AllByRecursion-weaker (λ j. mark_at marks j ≡ Shared) (λ j. mark_at (slice_set marks k Shared) j ≡ Shared)
      (stays_shared marks k Shared (λ e. refl)) wanted are.factors)
      (written_mark marks k Shared (λ m. m ≡ Shared) refl refl, tt);
  only = λ lone none.
      let P = λ (j : ℕ). lone j ≡ false in
      twice_factor lone k uses marks (AllByRecursion-right P wanted (k ∷ []) none).0 (are.only lone (AllByRecursion-left P wanted (k ∷ []) none));
}

-- ---- a node, and an output

two_more : (uses : List ℕ) (a b : Base) → (uses ++ node_of a) ++ node_of b ≡ uses ++ nodes_among (a ∷ b ∷ [])
two_more uses a b = append_assoc uses (node_of a) (node_of b) ∙ ap (λ l. uses ++ (node_of a ++ l)) (sym (append-nil (node_of b)))

after_node : (node : Node) (uses wanted : List ℕ) (marks : List Use) → AreMarked uses wanted marks
    → AreMarked (uses ++ nodes_among (operands node)) (wanted ++ factors_of node) (marked_node node marks)
after_node (Not a) uses wanted marks are =
    subst (λ l. AreMarked (uses ++ l) (wanted ++ []) (marked a marks)) (sym (append-nil (node_of a)))
    (subst (λ l. AreMarked (uses ++ node_of a) l (marked a marks)) (sym (append-nil wanted)) (after_marked a uses wanted marks are))
after_node (Xor a b) uses wanted marks are =
    subst (λ l. AreMarked l (wanted ++ []) (marked b (marked a marks))) (two_more uses a b)
    (subst (λ l. AreMarked ((uses ++ node_of a) ++ node_of b) l (marked b (marked a marks))) (sym (append-nil wanted))
    (after_marked b (uses ++ node_of a) wanted (marked a marks) (after_marked a uses wanted marks are)))
after_node (And a b) uses wanted marks are =
    subst (λ l. AreMarked l (wanted ++ nodes_among (a ∷ b ∷ [])) (marked_factor b (marked_factor a marks))) (two_more uses a b)
    (subst (λ l. AreMarked ((uses ++ node_of a) ++ node_of b) l (marked_factor b (marked_factor a marks))) (two_more wanted a b)
    (after_factor b (uses ++ node_of a) (wanted ++ node_of a) (marked_factor a marks) (after_factor a uses wanted marks are)))

marked_length : (base : Base) (marks : List Use) → length (marked base marks) ≡ length marks
marked_length (bases.Input i) marks = refl
marked_length (bases.Node k) marks = length-set marks k (after_use (mark_at marks k))

factor_length : (base : Base) (marks : List Use) → length (marked_factor base marks) ≡ length marks
factor_length (bases.Input i) marks = refl
factor_length (bases.Node k) marks = length-set marks k Shared

node_length : (node : Node) (marks : List Use) → length (marked_node node marks) ≡ length marks
node_length (Not a) marks = marked_length a marks
node_length (Xor a b) marks = marked_length b (marked a marks) ∙ marked_length a marks
node_length (And a b) marks = factor_length b (marked_factor a marks) ∙ factor_length a marks

output_length : (sig : Sig) (marks : List Use) → length (marked_output sig marks) ≡ length marks
output_length (Const bit) marks = refl
output_length (Is base) marks = marked_length base marks

-- ---- the loops

uses_and : (nodes : List Node) (node : Node) → uses_in (nodes ++ node ∷ []) [] ≡ uses_in nodes [] ++ nodes_among (operands node)
uses_and nodes node =
    append-nil (flat_map (λ (n : Node). nodes_among (operands n)) (nodes ++ node ∷ []))
    ∙ flat_map-append (λ (n : Node). nodes_among (operands n)) nodes (node ∷ [])
    ∙ ap₂ ◌++◌ (sym (append-nil (flat_map (λ (n : Node). nodes_among (operands n)) nodes))) (append-nil (nodes_among (operands node)))

factors_and : (nodes : List Node) (node : Node) → flat_map factors_of (nodes ++ node ∷ []) ≡ flat_map factors_of nodes ++ factors_of node
factors_and nodes node = flat_map-append factors_of nodes (node ∷ []) ∙ ap (λ l. flat_map factors_of nodes ++ l) (append-nil (factors_of node))

take_at : {A : Type 0} (xs : List A) (k : ℕ) (x : A) → slice_get xs k ≡ Some x → take (k + 1) xs ≡ take k xs ++ x ∷ []
take_at xs k x e = take_more xs k x (slice_get_within xs k x e) ∙ ap (λ y. take k xs ++ y ∷ []) (get_or_from_slice_get xs k x x e)

pub node_marked : (s : SettledView) (k : ℕ) (node : Node) (old new : List Use) → slice_get s.nodes k ≡ Some node → AreNodesMarked s k old
    → new ≡ marked_node node old → AreNodesMarked s (k + 1) new
node_marked s k node old new e are is = subst (AreNodesMarked s (k + 1)) (sym is) (record {
  long = node_length node old ∙ are.long;
  are = subst (λ l. AreMarked (uses_in l []) (flat_map factors_of l) (marked_node node old)) (sym (take_at s.nodes k node e))
      (subst (λ l. AreMarked l (flat_map factors_of (take k s.nodes ++ node ∷ [])) (marked_node node old)) (sym (uses_and (take k s.nodes) node))
      (subst (λ l. AreMarked (uses_in (take k s.nodes) [] ++ nodes_among (operands node)) l (marked_node node old)) (sym (factors_and (take k s.nodes) node))
      (after_node node (uses_in (take k s.nodes) []) (flat_map factors_of (take k s.nodes)) old are.are)));
})

-- the operands of a node are nodes before it
within_base : (n k : ℕ) (base : Base) (most : ℕ) → IsKnownBase n k base → k ≤ most → AreWithin most (node_of base)
within_base n k (bases.Input i) most known le = tt
within_base n k (bases.Node j) most known le = (omega (arith, known, le), tt)

within_two : (n k : ℕ) (a b : Base) (most : ℕ) → IsKnownBase n k a → IsKnownBase n k b → k ≤ most → AreWithin most (nodes_among (a ∷ b ∷ []))
within_two n k a b most known also le =
    AllByRecursion-append (λ j. j < most) (node_of a) (node_of b ++ []) (within_base n k a most known le)
    (AllByRecursion-append (λ j. j < most) (node_of b) [] (within_base n k b most also le) tt)

within_node : (n k : ℕ) (node : Node) (most : ℕ) → IsKnownNode n k node → k ≤ most → AreWithin most (nodes_among (operands node))
within_node n k (Not a) most known le = AllByRecursion-append (λ j. j < most) (node_of a) [] (within_base n k a most known le) tt
within_node n k (Xor a b) most known le = within_two n k a b most known.0 known.1 le
within_node n k (And a b) most known le = within_two n k a b most known.0 known.1 le

pub node_within : (s : SettledView) (k : ℕ) (node : Node) (marks : List Use) → IsSettled s → slice_get s.nodes k ≡ Some node → AreNodesMarked s k marks
    → AreWithin (length marks) (nodes_among (operands node))
node_within s k node marks settled e are =
    within_node s.inputs k node (length marks) (known_at s.inputs k s.nodes node settled.nodes e) (omega (arith, are.long, slice_get_within s.nodes k node e))

-- ---- outputs

output_uses : (nodes : List Node) (outputs : List Sig) (sig : Sig)
    → uses_in nodes (outputs ++ sig ∷ []) ≡ uses_in nodes outputs ++ nodes_among (base_of sig)
output_uses nodes outputs sig =
    let front = flat_map (λ (n : Node). nodes_among (operands n)) nodes in
    ap (λ l. front ++ nodes_among l) (flat_map-append base_of outputs (sig ∷ []) ∙ ap (λ l. flat_map base_of outputs ++ l) (append-nil (base_of sig)))
    ∙ ap (λ l. front ++ l) (flat_map-append node_of (flat_map base_of outputs) (base_of sig))
    ∙ sym (append_assoc front (nodes_among (flat_map base_of outputs)) (nodes_among (base_of sig)))

after_output : (sig : Sig) (uses wanted : List ℕ) (marks : List Use) → AreMarked uses wanted marks
    → AreMarked (uses ++ nodes_among (base_of sig)) wanted (marked_output sig marks)
after_output (Const bit) uses wanted marks are = subst (λ l. AreMarked l wanted marks) (sym (append-nil uses)) are
after_output (Is base) uses wanted marks are =
    subst (λ l. AreMarked (uses ++ l) wanted (marked base marks)) (sym (append-nil (node_of base))) (after_marked base uses wanted marks are)

pub output_marked : (s : SettledView) (j : ℕ) (sig : Sig) (old new : List Use) → slice_get s.outputs j ≡ Some sig → AreOutputsMarked s j old
    → new ≡ marked_output sig old → AreOutputsMarked s (j + 1) new
output_marked s j sig old new e are is = subst (AreOutputsMarked s (j + 1)) (sym is) (record {
  long = output_length sig old ∙ are.long;
  are = subst (λ l. AreMarked (uses_in s.nodes l) (flat_map factors_of s.nodes) (marked_output sig old)) (sym (take_at s.outputs j sig e))
      (subst (λ l. AreMarked l (flat_map factors_of s.nodes) (marked_output sig old)) (sym (output_uses s.nodes (take j s.outputs) sig))
      (after_output sig (uses_in s.nodes (take j s.outputs)) (flat_map factors_of s.nodes) old are.are));
})

all_at : {A : Type 0} (P : A → Type 0) (xs : List A) (k : ℕ) (x : A) → AllByRecursion P xs → slice_get xs k ≡ Some x → P x
all_at P [] k x all e = absurd (none-some x e)
all_at P (y ∷ ys) zero x all e = subst P (same_Some y x e) all.0
all_at P (y ∷ ys) (suc k) x all e = all_at P ys k x all.1 e

within_sig : (n k : ℕ) (sig : Sig) (most : ℕ) → IsKnownSig n k sig → k ≤ most → AreWithin most (nodes_among (base_of sig))
within_sig n k (Const bit) most known le = tt
within_sig n k (Is base) most known le = AllByRecursion-append (λ j. j < most) (node_of base) [] (within_base n k base most known le) tt

pub output_within : (s : SettledView) (j : ℕ) (sig : Sig) (marks : List Use) → IsSettled s → slice_get s.outputs j ≡ Some sig → AreOutputsMarked s j marks
    → AreWithin (length marks) (nodes_among (base_of sig))
output_within s j sig marks settled e are =
    within_sig s.inputs (length s.nodes) sig (length marks) (all_at (IsKnownSig s.inputs (length s.nodes)) s.outputs j sig settled.outputs e)
    (omega (arith, are.long))

pub outputs_begun : (s : SettledView) (marks : List Use) → AreNodesMarked s (length s.nodes) marks → AreOutputsMarked s 0 marks
outputs_begun s marks are = record {
  long = are.long;
  are = subst (λ l. AreMarked (uses_in l []) (flat_map factors_of l) marks) (take_all (length s.nodes) s.nodes (omega arith)) are.are;
}

never : (n k : ℕ) → IsMark 0 (mark_at (replicate n Never) k)
never zero k = tt
never (suc n) zero = refl
never (suc n) (suc k) = never n k

length-never : (n : ℕ) → length (replicate n Never) ≡ n
length-never zero = refl
length-never (suc n) = ap suc (length-never n)

never_shared : (n k : ℕ) → k < n → mark_at (replicate n Never) k ≡ Shared → ⊥
never_shared zero k low e = absurd (omega (arith, low))
never_shared (suc n) zero low e = cc
never_shared (suc n) (suc k) low e = never_shared n k (omega (arith, low)) e

pub none_marked : (s : SettledView) (marks : List Use) → marks ≡ replicate (length s.nodes) Never → AreNodesMarked s 0 marks
none_marked s marks e = subst (AreNodesMarked s 0) (sym e) (record {
  long = length-never (length s.nodes);
  are = record {
    each = never (length s.nodes);
    factors = tt;
    only = λ lone none k low yes shared. absurd (never_shared (length s.nodes) k (omega (arith, low, length-never (length s.nodes))) shared);
  };
})

-- ---- which nodes are shared

few_times : (times : ℕ) (mark : Use) → IsMark times mark → is_shared_mark mark ≡ false → times ≤ 1
few_times times Never is e = omega (arith, is)
few_times times Once is e = omega (arith, is)
few_times times Shared is e = cc

shared_mark : (marks : List Use) (k : ℕ) → is_shared (map is_shared_mark marks) k ≡ is_shared_mark (mark_at marks k)
shared_mark [] k = refl
shared_mark (m ∷ ms) zero = refl
shared_mark (m ∷ ms) (suc k) = shared_mark ms k

each_factor : (marks : List Use) (nodes : List Node) → AllByRecursion (λ k. mark_at marks k ≡ Shared) (flat_map factors_of nodes)
    → AllByRecursion (λ node. AllByRecursion (λ k. is_shared (map is_shared_mark marks) k ≡ true) (factors_of node)) nodes
each_factor marks [] all = tt
each_factor marks (node ∷ rest) all = (
  AllByRecursion-weaker (λ k. mark_at marks k ≡ Shared) (λ k. is_shared (map is_shared_mark marks) k ≡ true)
      (λ k e. shared_mark marks k ∙ ap is_shared_mark e) (factors_of node)
      (AllByRecursion-left (λ k. mark_at marks k ≡ Shared) (factors_of node) (flat_map factors_of rest) all),
  each_factor marks rest (AllByRecursion-right (λ k. mark_at marks k ≡ Shared) (factors_of node) (flat_map factors_of rest) all),
)

not_shared : (mark : Use) → (mark ≡ Shared → ⊥) → is_shared_mark mark ≡ false
not_shared Never not = refl
not_shared Once not = refl
not_shared Shared not = absurd (not refl)

pub shared_by : (s : SettledView) (marks : List Use) (shared : List Bool) → AreOutputsMarked s (length s.outputs) marks → shared ≡ map is_shared_mark marks
    → AreShared s.nodes s.outputs shared
shared_by s marks shared are e =
    let all = take_all (length s.outputs) s.outputs (omega arith) in
    let marked_all = subst (λ l. AreMarked (uses_in s.nodes l) (flat_map factors_of s.nodes) marks) all are.are in
    subst (AreShared s.nodes s.outputs) (sym e) (record {
      long = length-map marks is_shared_mark ∙ are.long;
      once = λ k alone. few_times (times_in k (uses_in s.nodes s.outputs)) (mark_at marks k) (marked_all.each k) (sym (shared_mark marks k) ∙ alone);
      factors = each_factor marks s.nodes marked_all.factors;
      only = λ lone none k low here few.
          shared_mark marks k
          ∙ not_shared (mark_at marks k)
          (λ twice. absurd (omega (arith, few, marked_all.only lone none k (omega (arith, low, are.long)) here twice)));
    })

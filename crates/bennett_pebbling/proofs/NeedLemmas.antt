-- On what nodes rest, and the marks of all nodes on which marked ones rest.
use Rattle.std.proofs.Common.{◌≡◌, ◌≢◌, ℕ, zero, suc, ◌+◌, ◌<◌, ◌≤◌, Bool, true, false, inl, inr, List, [], ◌∷◌, ◌++◌, length, map, take, drop, get_or, Some}
use Rattle.std.proofs.Common.{sym, ◌∙◌, ap, subst, refl, arith, below_more, append_assoc, append-nil, ◌⊎◌}
use Rattle.std.specs.Prelude.{slice_get}
use Rattle.std.proofs.lemmas.Bool.{cases_eq}
use Rattle.std.proofs.lemmas.List.{get_or_append_left, get_or_at, take-append-le, take_all, take_more}
use Rattle.list_facts.proofs.AmongLemmas.{among_append, among_left, among_right}
use Rattle.std.proofs.lemmas.Option.{same_Some}
use Rattle.list_facts.specs.Bits.{bit_of}
use Rattle.list_facts.specs.Lists.{IsAmong}
use Rattle.dependency_graph.specs.declared.node.Base.{Base}
use Rattle.dependency_graph.specs.declared.node.Base.TheVariants as bases
use Rattle.dependency_graph.specs.Graphs.{IsKnownBase, node_of, nodes_among}
use Rattle.std.specs.List.{AllByRecursion, flat_map}
use Rattle.sum_graph.specs.Graphs.{IsKnownSum, IsSumGraph, SumGraphView}
use Rattle.bit_sums.specs.Sums.{SumView, bases_of}
use Rattle.held_nodes.proofs.PlaceLemmas.{known_at, known_bases}
use Rattle.bennett_pebbling.specs.inside.Marks.{AreNeeds, HasMarked, IsNeeded, RestsOn, marked_itself, rested_on}

-- ---- operands

pub step_at : (nodes : List SumView) (k : ℕ) (node : SumView) → slice_get nodes k ≡ Some node
    → get_or (map (λ (x : SumView). nodes_among (bases_of x)) nodes) k [] ≡ nodes_among (bases_of node)
step_at [] k node is = absurd (cc)
step_at (x ∷ xs) zero node is = ap (λ (n : SumView). nodes_among (bases_of n)) (same_Some x node is)
step_at (x ∷ xs) (suc k) node is = step_at xs k node is

pub operand_of : (s : SumGraphView) (k j : ℕ) (node : SumView) → slice_get s.nodes k ≡ Some node → RestsOn s k j → IsAmong j (nodes_among (bases_of node))
operand_of s k j node is rests = subst (IsAmong j) (step_at s.nodes k node is) rests.among

pub rests_on : (s : SumGraphView) (k j : ℕ) (node : SumView) → slice_get s.nodes k ≡ Some node → IsAmong j (nodes_among (bases_of node)) → RestsOn s k j
rests_on s k j node is among = record { among = subst (IsAmong j) (sym (step_at s.nodes k node is)) among }

pub all_below : (n k j : ℕ) (bs : List Base) → AllByRecursion (IsKnownBase n k) bs → IsAmong j (nodes_among bs) → j < k
all_below n k j [] known among = absurd among
all_below n k j (bases.Input i ∷ rest) known among = all_below n k j rest known.1 among
all_below n k j (bases.Node i ∷ rest) known among = elim among as (λ _. j < k) [
  | inl e ↦ subst (λ (x : ℕ). x < k) (sym e) known.0
  | inr later ↦ all_below n k j rest known.1 later
]

pub operand_below : (n k j : ℕ) (node : SumView) → IsKnownSum n k node → IsAmong j (nodes_among (bases_of node)) → j < k
operand_below n k j node known among = all_below n k j (bases_of node) (known_bases n k node known) among

step_none : (nodes : List SumView) (k j : ℕ) → IsAmong j (get_or (map (λ (x : SumView). nodes_among (bases_of x)) nodes) k [])
    → (node : SumView) × (slice_get nodes k ≡ Some node)
step_none [] k j among = absurd among
step_none (x ∷ xs) zero j among = (x, refl)
step_none (x ∷ xs) (suc k) j among = step_none xs k j among

pub rests_below : (s : SumGraphView) (k j : ℕ) → IsSumGraph s → RestsOn s k j → j < k
rests_below s k j settled rests =
    let found = step_none s.nodes k j rests.among in
    operand_below s.inputs k j found.0 (known_at s.inputs k s.nodes found.0 settled.nodes found.1) (operand_of s k j found.0 found.1 rests)

-- ---- marks by falling nodes

pub bool_same : (a b : Bool) → (a ≡ true → b ≡ true) → (b ≡ true → a ≡ true) → a ≡ b
bool_same true b there back = sym (there refl)
bool_same false true there back = back refl
bool_same false false there back = refl

-- the operands of each marked node from place k on are marked
pub record IsMarking (s : SumGraphView) (lo : ℕ) (start : List Bool) (k : ℕ) (marks : List Bool) : Type 0 where
  pub count : length marks ≡ length start
  pub more : (i : ℕ) → bit_of start i ≡ true → bit_of marks i ≡ true
  pub closed : (i j : ℕ) → k ≤ i → bit_of marks i ≡ true → j < length marks → RestsOn s (lo + i) (lo + j) → bit_of marks j ≡ true
  pub only : (i : ℕ) → bit_of marks i ≡ true → IsNeeded s lo start i
  pub last : (i : ℕ) → i + 1 ≡ length start → bit_of marks i ≡ bit_of start i

pub bit_inside : (marks : List Bool) (i : ℕ) → bit_of marks i ≡ true → i < length marks
bit_inside [] i is = absurd (let clash : false ≡ true = is in cc)
bit_inside (x ∷ xs) zero is = omega arith
bit_inside (x ∷ xs) (suc i) is = omega (arith, bit_inside xs i is)

pub marking_begun : (s : SumGraphView) (lo : ℕ) (start : List Bool) → IsMarking s lo start (length start) start
marking_begun s lo start = record {
  count = refl;
  more = λ i is. is;
  closed = λ i j above is low rests. absurd (omega (arith, above, bit_inside start i is));
  only = λ i is. marked_itself i is;
  last = λ i e. refl;
}

pub marking_done : (s : SumGraphView) (lo : ℕ) (start marks : List Bool) → IsMarking s lo start 0 marks → AreNeeds s lo start marks
marking_done s lo start marks m = record {
  count = m.count;
  more = m.more;
  closed = record { closed = λ i j is low rests. m.closed i j (omega arith) is low rests };
  only = m.only;
  last = m.last;
}

pub marking_over : (s : SumGraphView) (lo : ℕ) (start marks : List Bool) (k i : ℕ) → i + 1 ≡ k → bit_of marks i ≡ false
    → IsMarking s lo start k marks → IsMarking s lo start i marks
marking_over s lo start marks k i next none m = record {
  count = m.count;
  more = m.more;
  closed = λ h j above is low rests. elim (cases_eq h i) as (λ _. bit_of marks j ≡ true) [
    | inl e ↦ absurd (let clash : false ≡ true = sym none ∙ ap (bit_of marks) (sym e) ∙ is in cc)
    | inr ne ↦ let other : h ≢ i = ne in m.closed h j (omega (arith, above, next)) is low rests
  ];
  only = m.only;
  last = m.last;
}

module _ (s : SumGraphView) (lo : ℕ) (start marks after : List Bool) (k i : ℕ) (node : SumView) (settled : IsSumGraph s) (next : i + 1 ≡ k)
    (is_node : slice_get s.nodes (lo + i) ≡ Some node) (h : HasMarked lo (nodes_among (bases_of node)) marks after) (m : IsMarking s lo start k marks) where
  -- a node from place i on was marked before
  was_marked : (l : ℕ) → i ≤ l → bit_of after l ≡ true → bit_of marks l ≡ true
  was_marked l above is = elim (h.only l is) as (λ _. bit_of marks l ≡ true) [
    | inl was ↦ was
    | inr among ↦
        let low = operand_below s.inputs (lo + i) (lo + l) node (known_at s.inputs (lo + i) s.nodes node settled.nodes is_node) among in
        absurd (omega (arith, low, above))
  ]

  pub marking_more : i < length start → bit_of marks i ≡ true → IsMarking s lo start i after
  marking_more inside here = record {
    count = h.count ∙ m.count;
    more = λ l is. h.more l (m.more l is);
    closed = λ l j above is low rests. elim (cases_eq l i) as (λ _. bit_of after j ≡ true) [
      | inl e ↦
          h.set j (subst (λ (n : ℕ). j < n) h.count low)
          (operand_of s (lo + i) (lo + j) node is_node (subst (λ (n : ℕ). RestsOn s (lo + n) (lo + j)) e rests))
      | inr ne ↦
          let other : l ≢ i = ne in
          h.more j (m.closed l j (omega (arith, above, next)) (was_marked l above is) (subst (λ (n : ℕ). j < n) h.count low) rests)
    ];
    only = λ l is. elim (h.only l is) as (λ _. IsNeeded s lo start l) [
      | inl was ↦ m.only l was
      | inr among ↦ rested_on i l (m.only i here) (rests_on s (lo + i) (lo + l) node is_node among)
    ];
    last = λ l e.
        let above : i ≤ l = omega (arith, e, inside) in
        bool_same (bit_of after l) (bit_of marks l) (was_marked l above) (h.more l) ∙ m.last l e;
  }

-- a list that is written over a list of its length
pub written : (n : ℕ) (old new : List Bool) → length new ≡ length old → length old ≡ n → take n (new ++ drop (length new) old) ≡ new
written n old new same long =
    take-append-le n new (drop (length new) old) (omega (arith, same, long)) ∙ take_all n new (omega (arith, same, long))

-- ---- marks that are pushed one after another

pub marks_more : (marks next : List Bool) (k : ℕ) (bit : Bool) (test : ℕ → Bool) → length marks ≡ k → next ≡ marks ++ bit ∷ [] → bit ≡ test k
    → ((j : ℕ) → j < k → bit_of marks j ≡ test j) → (j : ℕ) → j < k + 1 → bit_of next j ≡ test j
marks_more marks next k bit test long is here below =
    below_more (λ (j : ℕ). bit_of next j ≡ test j) k
    (λ j low.
    ap (λ (xs : List Bool). bit_of xs j) is ∙ get_or_append_left marks (bit ∷ []) false j (omega (arith, low, long)) ∙ below j low)
    (ap (λ (xs : List Bool). bit_of xs k) is ∙ get_or_at marks bit [] false k long ∙ here)

-- ---- marks of several bases

pub nodes-append : (some more : List Base) → nodes_among (some ++ more) ≡ nodes_among some ++ nodes_among more
nodes-append [] more = refl
nodes-append (bases.Input i ∷ rest) more = nodes-append rest more
nodes-append (bases.Node k ∷ rest) more = ap (λ (z : List ℕ). k ∷ z) (nodes-append rest more)

pub marked_none : (lo : ℕ) (start : List Bool) → HasMarked lo [] start start
marked_none lo start = record { count = refl; more = λ k is. is; set = λ k low among. absurd among; only = λ k is. inl is }

-- some were marked, and then more
pub marked_both : (lo : ℕ) (some more : List ℕ) (start mid after : List Bool) → HasMarked lo some start mid → HasMarked lo more mid after
    → HasMarked lo (some ++ more) start after
marked_both lo some more start mid after a b = record {
  count = b.count ∙ a.count;
  more = λ k is. b.more k (a.more k is);
  set = λ k low among. elim (among_append (lo + k) some more among) as (λ _. bit_of after k ≡ true) [
    | inl first ↦ b.more k (a.set k low first)
    | inr second ↦ b.set k (subst (λ (n : ℕ). k < n) (sym a.count) low) second
  ];
  only = λ k is. elim (b.only k is) as (λ _. (bit_of start k ≡ true) ⊎ IsAmong (lo + k) (some ++ more)) [
    | inl was ↦ elim (a.only k was) as (λ _. (bit_of start k ≡ true) ⊎ IsAmong (lo + k) (some ++ more)) [
      | inl before ↦ inl before
      | inr first ↦ inr (among_left (lo + k) some more first)
    ]
    | inr second ↦ inr (among_right (lo + k) some more second)
  ];
}

pub marked_two : (lo : ℕ) (some more : List Base) (start mid after : List Bool) → HasMarked lo (nodes_among some) start mid
    → HasMarked lo (nodes_among more) mid after → HasMarked lo (nodes_among (some ++ more)) start after
marked_two lo some more start mid after a b =
    subst (λ (z : List ℕ). HasMarked lo z start after) (sym (nodes-append some more))
    (marked_both lo (nodes_among some) (nodes_among more) start mid after a b)

flat_map-push : {A : Type 0} (f : A → List Base) (xs : List A) (x : A) → flat_map f (xs ++ x ∷ []) ≡ flat_map f xs ++ f x
flat_map-push f [] x = append-nil (f x)
flat_map-push f (y ∷ ys) x = ap (λ z. f y ++ z) (flat_map-push f ys x) ∙ sym (append_assoc (f y) (flat_map f ys) (f x))

-- one element more of a list was marked
pub marked_further : {A : Type 0} (parts : A → List Base) (lo : ℕ) (start mid after : List Bool) (xs : List A) (i : ℕ) (x : A) → i < length xs
    → x ≡ get_or xs i x → HasMarked lo (nodes_among (flat_map parts (take i xs))) start mid → HasMarked lo (nodes_among (parts x)) mid after
    → HasMarked lo (nodes_among (flat_map parts (take (i + 1) xs))) start after
marked_further parts lo start mid after xs i x low is a b =
    subst (λ (z : List Base). HasMarked lo (nodes_among z) start after)
    (sym (ap (flat_map parts) (take_more xs i x low) ∙ flat_map-push parts (take i xs) (get_or xs i x) ∙ ap (λ y. flat_map parts (take i xs) ++ parts y)
    (sym is)))
    (marked_two lo (flat_map parts (take i xs)) (parts x) start mid after a b)

pub singles : (xs : List Base) → flat_map (λ b. b ∷ []) xs ≡ xs
singles [] = refl
singles (x ∷ xs) = ap (λ z. x ∷ z) (singles xs)

pub marked_one : (lo : ℕ) (b : Base) (start after : List Bool) → HasMarked lo (node_of b) start after → HasMarked lo (nodes_among (b ∷ [])) start after
marked_one lo b start after h = subst (λ (z : List ℕ). HasMarked lo z start after) (sym (append-nil (node_of b))) h

-- No cut of a graph is longer than the width of its tape: each member is what some member of a cut of the tape became.
use Rattle.std.proofs.Common.{◌≡◌, ◌≢◌, ℕ, ◌<◌, ◌≤◌, ◌==◌, Bool, true, false, cond, ◌||◌, ◌⊎◌, inl, inr, List, [], ◌∷◌, ◌++◌, length, map}
use Rattle.std.proofs.Common.{drop, filter, refl, sym, ap, ◌∙◌, subst, arith, length-append}
use Rattle.std.specs.List.{flat_map, list_any}
use Rattle.std.proofs.lemmas.Bool.{cases_Bool, cases_eq, eqb-true, eq-eqb}
use Rattle.std.proofs.lemmas.List.{length-map}
use Rattle.list_facts.specs.Lists.{IsAmong, AnyByRecursion, AreApart, AreDifferent, below}
use Rattle.list_facts.proofs.AllLemmas.{AllByRecursion-weaker, AllByRecursion-map}
use Rattle.list_facts.proofs.AmongLemmas.{any_of, among_map, all_from_among}
use Rattle.list_facts.proofs.OrderLemmas.{AreDifferent-rising, among_below, below_bound}
use Rattle.list_facts.proofs.CountingLemmas.{no_more}
use Rattle.revs_tape.specs.declared.tape.Ref.{Ref}
use Rattle.revs_tape.specs.declared.tape.Ref.TheVariants as refs
use Rattle.revs_tape.specs.declared.tape.Entry.{Entry}
use Rattle.revs_tape.specs.Cuts.{is_in, is_needed, cut_at}
use Rattle.revs_tape.specs.Measures.{HasWidth, writes_among}
use Rattle.revs_tape.specs.Measures as tapes
use Rattle.revs_tape.specs.Tapes.{TapeView, IsTape}
use Rattle.revs_tape.specs.Tapes as tape
use Rattle.dependency_graph.specs.declared.node.Base.{Base}
use Rattle.dependency_graph.specs.declared.node.Base.TheVariants as bases
use Rattle.dependency_graph.specs.declared.node.Node.{Node}
use Rattle.dependency_graph.specs.declared.node.Sig.{Sig}
use Rattle.dependency_graph.specs.declared.node.Sig.TheVariants.{Const, Is}
use Rattle.dependency_graph.specs.Graphs.{base_of, nodes_among, operands, output_nodes, sig_of, steps_of}
use Rattle.dependency_graph.specs.Folds.{FoldView, with_write, folded_by, nothing_folded, graph_of}
use Rattle.dependency_graph.specs.Uses.{cut_in}
use Rattle.dependency_graph.specs.Widths.{GraphsAreNoWider}
use Rattle.dependency_graph.proofs.FoldLemmas.{length-all, nodes_grow}
use Rattle.dependency_graph.proofs.TableLemmas.{length-steps_of}
use Rattle.dependency_graph.proofs.UseLemmas.{among_filter, filter_passes, or_left, or_right, rising_cut}
use Rattle.dependency_graph.proofs.ReachLemmas.{IsRead, IsAhead, ahead_begin, ahead_all, one_number}

-- ---- tests of numbers in lists

pub or_else : (a b : Bool) → a ≡ false → (a || b) ≡ true → b ≡ true
or_else true b e some = absurd (let clash : true ≡ false = e in cc)
or_else false b e some = some

write_number : Ref → ℕ
write_number (refs.Input i) = 0
write_number (refs.Write i) = i

one_write : (j i : ℕ) → refs.Write j ≡ refs.Write i → j ≡ i
unfolding write_number
one_write j i e = ap write_number e

in_among : (i : ℕ) (reads : List Ref) → IsAmong (refs.Write i) reads → is_in (writes_among reads) i ≡ true
in_among i [] k = absurd k
in_among i (refs.Input j ∷ reads) k = elim k as (λ _. is_in (writes_among reads) i ≡ true) [
  | inl e ↦ absurd (let clash : refs.Write i ≡ refs.Input j = e in cc)
  | inr later ↦ in_among i reads later
]
in_among i (refs.Write j ∷ reads) k = elim k as (λ _. ((j == i) || is_in (writes_among reads) i) ≡ true) [
  | inl e ↦ or_left (j == i) (is_in (writes_among reads) i) (eq-eqb j i (one_write j i (sym e)))
  | inr later ↦ or_right (j == i) (is_in (writes_among reads) i) (in_among i reads later)
]

read_some : (i : ℕ) (es : List Entry) → IsRead es i
    → list_any (λ reads. is_in reads i) (map (λ (e : Entry). writes_among (tape.operands e)) es) ≡ true
read_some i [] is = absurd is
read_some i (e ∷ es) is =
    let here = is_in (writes_among (tape.operands e)) i in
    let there = list_any (λ reads. is_in reads i) (map (λ (f : Entry). writes_among (tape.operands f)) es) in
    elim is as (λ _. (here || there) ≡ true) [
      | inl now ↦ or_left here there (in_among i (tape.operands e) now)
      | inr later ↦ or_right here there (read_some i es later)
    ]

has_node : (k : ℕ) (bs : List Base) → is_in (nodes_among bs) k ≡ true → IsAmong (bases.Node k) bs
has_node k [] e = absurd (let clash : false ≡ true = e in cc)
has_node k (bases.Input i ∷ bs) e = inr (has_node k bs e)
has_node k (bases.Node j ∷ bs) e = elim (cases_Bool (j == k)) as (λ _. IsAmong (bases.Node k) (bases.Node j ∷ bs)) [
  | inl same ↦ inl (ap bases.Node (sym (eqb-true j k same)))
  | inr other ↦ inr (has_node k bs (or_else (j == k) (is_in (nodes_among bs) k) other e))
]

record HasNode (k : ℕ) (xs : List Node) : Type 0 where
  node : Node
  among : IsAmong node xs
  has : IsAmong (bases.Node k) (operands node)

some_node : (k : ℕ) (xs : List Node) → list_any (λ reads. is_in reads k) (map (λ (x : Node). nodes_among (operands x)) xs) ≡ true → HasNode k xs
some_node k [] e = absurd (let clash : false ≡ true = e in cc)
some_node k (x ∷ xs) e = elim (cases_Bool (is_in (nodes_among (operands x)) k)) as (λ _. HasNode k (x ∷ xs)) [
  | inl here ↦ record { node = x; among = inl refl; has = has_node k (operands x) here }
  | inr other ↦
      let found = some_node k xs (or_else (is_in (nodes_among (operands x)) k)
      (list_any (λ reads. is_in reads k) (map (λ (y : Node). nodes_among (operands y)) xs)) other e) in
      record { node = found.node; among = inr found.among; has = found.has }
]

record HasOutput (writes : List Sig) (outs : List Ref) (k : ℕ) : Type 0 where
  ref : Ref
  among : IsAmong ref outs
  is : sig_of writes ref ≡ Is (bases.Node k)

output_step : (writes : List Sig) (r : Ref) (outs : List Ref) (k : ℕ) (sig : Sig) → sig_of writes r ≡ sig
    → (is_in (nodes_among (flat_map base_of (map (sig_of writes) outs))) k ≡ true → HasOutput writes outs k)
    → is_in (nodes_among (base_of sig ++ flat_map base_of (map (sig_of writes) outs))) k ≡ true → HasOutput writes (r ∷ outs) k
output_step writes r outs k (Const bit) same later e =
    let found = later e in record { ref = found.ref; among = inr found.among; is = found.is }
output_step writes r outs k (Is (bases.Input i)) same later e =
    let found = later e in record { ref = found.ref; among = inr found.among; is = found.is }
output_step writes r outs k (Is (bases.Node j)) same later e =
    elim (cases_Bool (j == k)) as (λ _. HasOutput writes (r ∷ outs) k) [
      | inl one ↦ record { ref = r; among = inl refl; is = same ∙ ap (λ (z : ℕ). Is (bases.Node z)) (eqb-true j k one) }
      | inr other ↦
          let found = later (or_else (j == k) (is_in (nodes_among (flat_map base_of (map (sig_of writes) outs))) k) other e) in
          record { ref = found.ref; among = inr found.among; is = found.is }
    ]

some_output : (writes : List Sig) (outs : List Ref) (k : ℕ)
    → is_in (nodes_among (flat_map base_of (map (sig_of writes) outs))) k ≡ true → HasOutput writes outs k
some_output writes [] k e = absurd (let clash : false ≡ true = e in cc)
some_output writes (r ∷ outs) k e = output_step writes r outs k (sig_of writes r) refl (λ z. some_output writes outs k z) e

drop_mapped : {A B : Type 0} (f : A → B) (xs ys : List A) → drop (length xs) (map f (xs ++ ys)) ≡ map f ys
drop_mapped f [] ys = refl
drop_mapped f (x ∷ xs) ys = drop_mapped f xs ys

-- ---- a member of a cut

among_step : (b : Bool) (x y : ℕ) (ys zs : List ℕ) → (IsAmong x zs → IsAmong x ys) → IsAmong x (cond b (y ∷ zs) zs) → IsAmong x (y ∷ ys)
among_step true x y ys zs later k = elim k as (λ _. IsAmong x (y ∷ ys)) [ inl e ↦ inl e | inr there ↦ inr (later there) ]
among_step false x y ys zs later k = inr (later k)

pub filter_among : (test : ℕ → Bool) (x : ℕ) (xs : List ℕ) → IsAmong x (filter test xs) → IsAmong x xs
filter_among test x [] k = absurd k
filter_among test x (y ∷ ys) k = among_step (test y) x y ys (filter test ys) (λ later. filter_among test x ys later) k

-- a write in the tape's cut behind its front that became node k
record IsHeld (t : TapeView) (front : FoldView) (j k : ℕ) : Type 0 where
  at : ℕ
  is : sig_of front.sigs (refs.Write at) ≡ Is (bases.Node k)
  among : IsAmong at (cut_at (tapes.steps_of t) (writes_among t.outputs) j)

-- a write below the front that is an output, or is read behind it, is in the cut
held_among : (t : TapeView) (a b : List Entry) (i : ℕ) → t.entries ≡ a ++ b → i < length a
    → IsAmong (refs.Write i) t.outputs ⊎ IsRead b i → IsAmong i (cut_at (tapes.steps_of t) (writes_among t.outputs) (length a))
held_among t a b i cut low used =
    let step : Entry → List ℕ = λ e. writes_among (tape.operands e) in
    let behind : drop (length a) (tapes.steps_of t) ≡ map step b = ap (λ (z : List Entry). drop (length a) (map step z)) cut ∙ drop_mapped step a b in
    let out = is_in (writes_among t.outputs) i in
    let later = list_any (λ reads. is_in reads i) (drop (length a) (tapes.steps_of t)) in
    among_filter (is_needed (tapes.steps_of t) (writes_among t.outputs) (length a)) i (below (length a)) (among_below (length a) i low)
    (elim used as (λ _. (out || later) ≡ true) [
      | inl output ↦ or_left out later (in_among i t.outputs output)
      | inr read ↦ or_right out later (ap (λ (z : List (List ℕ)). list_any (λ reads. is_in reads i) z) behind ∙ read_some i b read)
    ])

folded_append : (f : FoldView) (a b : List Entry) → folded_by f (a ++ b) ≡ folded_by (folded_by f a) b
folded_append f [] b = refl
folded_append f (e ∷ a) b = folded_append (with_write f e) a b

held_by_outputs : (t : TapeView) (a b : List Entry) (k : ℕ) → t.entries ≡ a ++ b → (front now : FoldView) → length front.sigs ≡ length a
    → IsAhead front b now → k < length front.nodes → is_in (nodes_among (flat_map base_of (map (sig_of now.sigs) t.outputs))) k ≡ true
    → IsHeld t front (length a) k
held_by_outputs t a b k cut front now size is low e =
    let out = some_output now.sigs t.outputs k e in
    let there = is.reached out.ref k low out.is in
    record {
      at = there.at;
      is = there.found.is;
      among = held_among t a b there.at cut (omega (arith, size, there.found.inside))
          (elim there.used as (λ _. IsAmong (refs.Write there.at) t.outputs ⊎ IsRead b there.at) [
            | inl one ↦ inl (subst (λ (z : Ref). IsAmong z t.outputs) one out.among)
            | inr read ↦ inr read
          ]);
    }

held_by_nodes : (t : TapeView) (a b : List Entry) (k : ℕ) → t.entries ≡ a ++ b → (front now : FoldView) → length front.sigs ≡ length a
    → IsAhead front b now → k < length front.nodes
    → list_any (λ reads. is_in reads k) (drop (length front.nodes) (map (λ (x : Node). nodes_among (operands x)) now.nodes)) ≡ true
    → IsHeld t front (length a) k
held_by_nodes t a b k cut front now size is low e =
    let behind : drop (length front.nodes) (map (λ (x : Node). nodes_among (operands x)) now.nodes) ≡ map (λ (x : Node). nodes_among (operands x)) is.newer =
    ap (λ (z : List Node). drop (length front.nodes) (map (λ (x : Node). nodes_among (operands x)) z)) is.nodes
    ∙ drop_mapped (λ (x : Node). nodes_among (operands x)) front.nodes is.newer in
    let some = some_node k is.newer (sym (ap (λ (z : List (List ℕ)). list_any (λ reads. is_in reads k) z) behind) ∙ e) in
    let there = is.needed some.node some.among k low some.has in
    record { at = there.at; is = there.found.is; among = held_among t a b there.at cut (omega (arith, size, there.found.inside)) (inr there.read) }

held : (t : TapeView) (a b : List Entry) (k : ℕ) → t.entries ≡ a ++ b
    → IsAmong k (cut_in (graph_of t) (length (folded_by nothing_folded a).nodes)) → IsHeld t (folded_by nothing_folded a) (length a) k
held t a b k cut among =
    let front = folded_by nothing_folded a in
    let g = graph_of t in
    let j = length front.nodes in
    let now = folded_by nothing_folded t.entries in
    let whole : folded_by front b ≡ now = sym (ap (folded_by nothing_folded) cut ∙ folded_append nothing_folded a b) in
    let is : IsAhead front b now = subst (λ (z : FoldView). IsAhead front b z) whole (ahead_all front b [] front b refl (ahead_begin front)) in
    let size : length front.sigs ≡ length a = length-all nothing_folded a ∙ omega arith in
    let low : k < j = below_bound j k (filter_among (is_needed (steps_of g) (output_nodes g) j) k (below j) among) in
    let needed : is_needed (steps_of g) (output_nodes g) j k ≡ true = filter_passes (is_needed (steps_of g) (output_nodes g) j) k (below j) among in
    elim (cases_Bool (is_in (output_nodes g) k)) as (λ _. IsHeld t front (length a) k) [
      | inl out ↦ held_by_outputs t a b k cut front now size is low out
      | inr inner ↦ held_by_nodes t a b k cut front now size is low
          (or_else (is_in (output_nodes g) k) (list_any (λ reads. is_in reads k) (drop j (steps_of g))) inner needed)
    ]

-- ---- counting

apart_nodes : (ks : List ℕ) → AreDifferent ks → AreApart (λ (x y : Sig). x ≡ y) (map (λ k. Is (bases.Node k)) ks)
apart_nodes [] d = tt
apart_nodes (k ∷ ks) d = (
  AllByRecursion-map (λ (y : Sig). ¬ (Is (bases.Node k) ≡ y)) (λ l. Is (bases.Node l)) ks
      (AllByRecursion-weaker (λ l. k ≢ l) (λ l. ¬ (Is (bases.Node k) ≡ Is (bases.Node l))) (λ l ne e. ne (one_number k l e)) ks d.0),
  apart_nodes ks d.1,
)

no_longer : (t : TapeView) (a b : List Entry) → t.entries ≡ a ++ b
    → length (cut_in (graph_of t) (length (folded_by nothing_folded a).nodes)) ≤ length (cut_at (tapes.steps_of t) (writes_among t.outputs) (length a))
no_longer t a b cut =
    let front = folded_by nothing_folded a in
    let g = graph_of t in
    let mine = cut_in g (length front.nodes) in
    let theirs = cut_at (tapes.steps_of t) (writes_among t.outputs) (length a) in
    let sig_at : ℕ → Sig = λ i. sig_of front.sigs (refs.Write i) in
    let few : length (map (λ k. Is (bases.Node k)) mine) ≤ length (map sig_at theirs) =
    no_more (λ (x y : Sig). x ≡ y) (λ x y e. sym e) (λ x y z e f. e ∙ f) (map (λ k. Is (bases.Node k)) mine) (map sig_at theirs)
    (apart_nodes mine (AreDifferent-rising mine (rising_cut (steps_of g) (output_nodes g) (length front.nodes))))
    (AllByRecursion-map (λ (x : Sig). AnyByRecursion (λ (y : Sig). x ≡ y) (map sig_at theirs)) (λ k. Is (bases.Node k)) mine
    (all_from_among (λ k. AnyByRecursion (λ (y : Sig). Is (bases.Node k) ≡ y) (map sig_at theirs)) mine
    (λ k among. let there = held t a b k cut among in
    any_of (λ (y : Sig). Is (bases.Node k) ≡ y) (sig_at there.at) (map sig_at theirs) (among_map sig_at there.at theirs there.among) (sym there.is)))) in
    omega (arith, few, length-map mine (λ k. Is (bases.Node k)), length-map theirs sig_at)

-- ---- each number of nodes is that of some front

record IsFront (f : FoldView) (es : List Entry) (j : ℕ) : Type 0 where
  front : List Entry
  behind : List Entry
  cut : es ≡ front ++ behind
  size : length (folded_by f front).nodes ≡ j

front_at : (f : FoldView) (es : List Entry) (j : ℕ) → length f.nodes ≤ j → j ≤ length (folded_by f es).nodes → IsFront f es j
front_at f [] j low high = record { front = []; behind = []; cut = refl; size = omega (arith, low, high) }
front_at f (e ∷ es) j low high = elim (cases_eq (length f.nodes) j) as (λ _. IsFront f (e ∷ es) j) [
  | inl same ↦ record { front = []; behind = e ∷ es; cut = refl; size = same }
  | inr ne ↦
      let other : length f.nodes ≢ j = ne in
      let rest = front_at (with_write f e) es j (omega (arith, low, nodes_grow f e)) high in
      record { front = e ∷ rest.front; behind = rest.behind; cut = ap (λ (z : List Entry). e ∷ z) rest.cut; size = rest.size }
]

no_cut_is_longer : (t : TapeView) (width : ℕ) → HasWidth t width → (j : ℕ) → j ≤ length (graph_of t).nodes
    → length (cut_in (graph_of t) j) ≤ width
no_cut_is_longer t width is j inside =
    let place = front_at nothing_folded t.entries j (omega arith) inside in
    let fewer = no_longer t place.front place.behind place.cut in
    let within : length place.front ≤ length (tapes.steps_of t) =
    omega (arith, ap length place.cut, length-append place.front place.behind, length-map t.entries (λ (e : Entry). writes_among (tape.operands e))) in
    let here : length (cut_in (graph_of t) j) ≤ length (cut_at (tapes.steps_of t) (writes_among t.outputs) (length place.front)) =
    subst (λ (z : ℕ). length (cut_in (graph_of t) z) ≤ length (cut_at (tapes.steps_of t) (writes_among t.outputs) (length place.front))) place.size fewer in
    omega (arith, here, is.most (length place.front) within)

pub graphs_are_no_wider : GraphsAreNoWider
graphs_are_no_wider t width is = record {
  cuts = no_cut_is_longer t width is;
  width = λ own has. omega (
    arith,
    has.reached,
    no_cut_is_longer t width is has.at (omega (arith, has.inside, length-steps_of (graph_of t))),
  );
}

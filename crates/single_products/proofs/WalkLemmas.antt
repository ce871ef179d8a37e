-- The nodes and outputs of a graph, one after another.
use Rattle.std.proofs.Common.{◌≡◌, ℕ, ◌+◌, ◌<◌, ◌≤◌, Bool, List, [], ◌∷◌, ◌++◌, length, map, take, slice_get, Some}
use Rattle.std.proofs.Common.{refl, sym, ap, ap₂, ◌∙◌, subst, arith, get_or, true}
use Rattle.std.specs.List.{AllByRecursion}
use Rattle.std.proofs.lemmas.Bool.{lt-ltb, ltb-true}
use Rattle.std.proofs.lemmas.List.{length-append, map-append, take_all}
use Rattle.std.proofs.lemmas.List.Sums.{sum_by-cons}
use Rattle.std.proofs.lemmas.Option.{get_or_from_slice_get, slice_get-get_or, slice_get_within}
use Rattle.list_facts.specs.Lists.{AllFrom}
use Rattle.list_facts.proofs.AllLemmas.{AllByRecursion-at, AllByRecursion-push, AllByRecursion-weaker, AllFrom-at, AllFrom-push}
use Rattle.dependency_graph.specs.declared.node.Base.{Base}
use Rattle.dependency_graph.specs.declared.node.Base.TheVariants as bases
use Rattle.bit_sums.specs.Sums.{SumView, IsSumOver, sum_value}
use Rattle.revs_tape.specs.declared.limits.TheConstants.{MOST_WRITES}
use Rattle.sum_graph.specs.Graphs.{HasFewBits, IsKnownSum, IsSumGraph, SumGraphView, is_known, products_in, sum_on}
use Rattle.sum_graph.proofs.PlaceLemmas.{IsGrown, all_grown, few_grown, grown_from, known_grown, longer, products_grown, same_value, still_known}
use Rattle.sum_graph.proofs.SumNodeLemmas.{sum_same, value_of_sum}
use Rattle.sum_graph.proofs.WalkLemmas.{take_next}
use Rattle.single_products.specs.Singles.{HasNoProduct, HasOneProduct, IsSingleOf, most_nodes}
use Rattle.single_products.specs.inside.Parting.{AreNodesParted, AreOutputsParted, AreStanding, IsNodeRebuilt, IsOutputRebuilt, StandsFor}
use Rattle.single_products.specs.inside.Renumbering.{IsRebuilt, at_places, bit_on, has_place, renumbered}
use Rattle.single_products.proofs.PartLemmas.{bit_still}
use Rattle.single_products.proofs.RenumberingLemmas.{known_placed, sum_weaker}
use Rattle.single_products.proofs.RoomLemmas.{products_all, products_next, products_within}

-- ---- bases at their places

stands_at : (g : SumGraphView) (places : List ℕ) (nodes : List SumView) (j : ℕ) → AreStanding g places nodes → j < length places
    → StandsFor g nodes j (get_or places j 0)
stands_at g places nodes j are low = AllFrom-at (StandsFor g nodes) j places (get_or places j 0) are.each (slice_get-get_or places j 0 low)

base_known : (g : SumGraphView) (places : List ℕ) (nodes : List SumView) → AreStanding g places nodes → (b : Base)
    → is_known g.inputs (length places) b ≡ true → is_known g.inputs (length nodes) (renumbered places b) ≡ true
base_known g places nodes are (bases.Input i) known = known
base_known g places nodes are (bases.Node j) known =
    let stands = stands_at g places nodes j are (ltb-true j (length places) known) in
    lt-ltb (get_or places j 0) (length nodes) stands.within

base_same : (g : SumGraphView) (places : List ℕ) (nodes : List SumView) (input : List Bool) → AreStanding g places nodes → (b : Base)
    → is_known g.inputs (length places) b ≡ true → bit_on nodes input (renumbered places b) ≡ bit_on g.nodes input b
base_same g places nodes input are (bases.Input i) known = refl
base_same g places nodes input are (bases.Node j) known = (stands_at g places nodes j are (ltb-true j (length places) known)).values input

-- a sum of nodes that have places
over_places : (g : SumGraphView) (places : List ℕ) (nodes : List SumView) (s : SumView) → AreStanding g places nodes
    → IsKnownSum g.inputs (length places) s → IsSumOver (at_places places (is_known g.inputs (length nodes))) s
over_places g places nodes s are known =
    sum_weaker (is_known g.inputs (length places)) (at_places places (is_known g.inputs (length nodes))) (base_known g places nodes are) s known

value_at_places : (g : SumGraphView) (places : List ℕ) (nodes : List SumView) (input : List Bool) (s : SumView) → AreStanding g places nodes
    → IsKnownSum g.inputs (length places) s → sum_value (at_places places (bit_on nodes input)) s ≡ sum_on g.nodes input s
value_at_places g places nodes input s are known =
    sum_same (at_places places (bit_on nodes input)) (bit_on g.nodes input) (is_known g.inputs (length places)) (base_same g places nodes input are) s known

-- ---- nodes that grew

still_stands : (g : SumGraphView) (old new : List SumView) (j place : ℕ) → IsGrown old new → StandsFor g old j place → StandsFor g new j place
still_stands g old new j place grown s = record {
  within = omega (arith, s.within, longer old new grown);
  values = λ input.
      bit_still g.inputs old new input (bases.Node place) grown (lt-ltb place (length old) s.within) ∙ s.values input;
}

all_stand : (g : SumGraphView) (old new : List SumView) (k : ℕ) (places : List ℕ) → IsGrown old new → AllFrom (StandsFor g old) k places
    → AllFrom (StandsFor g new) k places
all_stand g old new k [] grown all = tt
all_stand g old new k (p ∷ ps) grown all = (still_stands g old new k p grown all.0, all_stand g old new (k + 1) ps grown all.1)

grown_by : (places : List ℕ) (s : SumView) (old new : List SumView) (sum : SumView) → IsRebuilt places s old new sum → IsGrown old new
grown_by places s old new sum r = record { more = r.more; is = r.grown }

-- the places still stand, where products became nodes
standing_still : (g : SumGraphView) (places : List ℕ) (s : SumView) (old new : List SumView) (sum : SumView) → AreStanding g places old
    → IsKnownSum g.inputs (length places) s → IsRebuilt places s old new sum → AreStanding g places new
standing_still g places s old new sum are known r = record {
  known = r.known g.inputs are.known (over_places g places old s are known);
  each = all_stand g old new 0 places (grown_by places s old new sum r) are.each;
  single = r.single are.single;
  few_bits = r.few_bits are.few_bits;
}

-- ---- nodes

pub nodes_begun : (g : SumGraphView) → AreNodesParted g 0 [] []
nodes_begun g = record {
  standing = record { known = tt; each = tt; single = tt; few_bits = tt };
  long = refl;
  few = omega arith;
  products = omega arith;
}

-- a node is a sum of nodes that have places
pub node_placed : (g : SumGraphView) (k : ℕ) (places : List ℕ) (nodes : List SumView) (s : SumView) → IsSumGraph g → AreNodesParted g k places nodes
    → slice_get g.nodes k ≡ Some s → IsSumOver (has_place places) s
node_placed g k places nodes s graph are e = known_placed g.inputs k places s are.long (AllFrom-at (IsKnownSum g.inputs) k g.nodes s graph.nodes e)

pub node_room : (g : SumGraphView) (k : ℕ) (places : List ℕ) (nodes : List SumView) (s : SumView) → most_nodes g ≤ MOST_WRITES
    → AreNodesParted g k places nodes → slice_get g.nodes k ≡ Some s → length nodes + length s.products < MOST_WRITES
node_room g k places nodes s room are e =
    omega (arith, room, are.few, products_next g.nodes k s e, products_within g.nodes (k + 1), slice_get_within g.nodes k s e)

pub node_parted : (g : SumGraphView) (k : ℕ) (places : List ℕ) (old new : List SumView) (s : SumView) (place : ℕ) → IsSumGraph g
    → AreNodesParted g k places old → slice_get g.nodes k ≡ Some s → IsNodeRebuilt places s old new place
    → AreNodesParted g (k + 1) (places ++ place ∷ []) new
node_parted g k places old new s place graph are e is =
    let n = g.inputs in
    let known : IsKnownSum n (length places) s =
    subst (λ (j : ℕ). IsKnownSum n j s) (sym are.long) (AllFrom-at (IsKnownSum n) k g.nodes s graph.nodes e) in
    let over = over_places g places old s are.standing known in
    let mid = standing_still g places s old is.between is.sum are.standing known is.rebuilt in
    let g2 = grown_from is.whole is.between new is.at.grown in
    let whole_known : IsKnownSum n (length is.between) is.whole =
    is.finished.over (is_known n (length is.between)) (is.rebuilt.over n are.standing.known over) in
    let nodes = known_grown n is.between new is.whole mid.known whole_known is.at.grown in
    let one : length is.whole.products ≤ 1 = omega (arith, is.finished.few, is.one) in
    let stands : StandsFor g new k place = record {
      within = slice_get_within new place is.whole is.at.found;
      values = λ input.
          value_of_sum n new input place is.whole nodes is.at.found
          ∙ same_value n is.between new input is.whole g2 whole_known
          ∙ is.finished.values (bit_on is.between input)
          ∙ is.rebuilt.values n are.standing.known over input
          ∙ value_at_places g places old input s are.standing known
          ∙ sym (value_of_sum n g.nodes input k s graph.nodes e);
    } in
    let at : 0 + length places ≡ k = omega (arith, are.long) in
    let next = products_next g.nodes k s e in
    record {
      standing = record {
        known = nodes;
        each = AllFrom-push (StandsFor g new) 0 places place (all_stand g is.between new 0 places g2 mid.each)
            (subst (λ (j : ℕ). StandsFor g new j place) (sym at) stands);
        single = all_grown HasOneProduct is.between new is.whole mid.single one is.at.grown;
        few_bits = all_grown HasFewBits is.between new is.whole mid.few_bits is.finished.few_bits is.at.grown;
      };
      long = omega (arith, length-append places (place ∷ []), are.long);
      few = omega (arith, few_grown is.between new is.whole is.at.grown, is.rebuilt.few, are.few, next);
      products = omega (arith, products_grown is.between new is.whole is.at.grown, is.finished.few, is.rebuilt.products, are.products, next);
    }

-- ---- outputs

pub outputs_begun : (g : SumGraphView) (places : List ℕ) (nodes : List SumView) → AreNodesParted g (length g.nodes) places nodes
    → AreOutputsParted g 0 places nodes []
outputs_begun g places nodes are =
    let all = products_all g.nodes in
    record {
      standing = are.standing;
      long = are.long;
      many = refl;
      known = tt;
      values = λ input. refl;
      bits = tt;
      few = omega (arith, are.few, all);
      products = omega (arith, are.products, all);
    }

output_known : (g : SumGraphView) (j : ℕ) (s : SumView) → IsSumGraph g → slice_get g.outputs j ≡ Some s → IsKnownSum g.inputs (length g.nodes) s
output_known g j s graph e =
    subst (IsKnownSum g.inputs (length g.nodes)) (get_or_from_slice_get g.outputs j s s e)
    (AllByRecursion-at (IsKnownSum g.inputs (length g.nodes)) g.outputs j s graph.outputs (slice_get_within g.outputs j s e))

pub output_placed : (g : SumGraphView) (j : ℕ) (places : List ℕ) (nodes sums : List SumView) (s : SumView) → IsSumGraph g
    → AreOutputsParted g j places nodes sums → slice_get g.outputs j ≡ Some s → IsSumOver (has_place places) s
output_placed g j places nodes sums s graph are e = known_placed g.inputs (length g.nodes) places s are.long (output_known g j s graph e)

pub output_room : (g : SumGraphView) (j : ℕ) (places : List ℕ) (nodes sums : List SumView) (s : SumView) → most_nodes g ≤ MOST_WRITES
    → AreOutputsParted g j places nodes sums → slice_get g.outputs j ≡ Some s → length nodes + length s.products ≤ MOST_WRITES
output_room g j places nodes sums s room are e = omega (arith, room, are.few, products_next g.outputs j s e, products_within g.outputs (j + 1))

still_outputs : (n : ℕ) (old new : List SumView) (input : List Bool) (sums : List SumView) → IsGrown old new
    → AllByRecursion (IsKnownSum n (length old)) sums → map (sum_on new input) sums ≡ map (sum_on old input) sums
still_outputs n old new input [] grown all = refl
still_outputs n old new input (s ∷ ss) grown all =
    ap₂ (λ b bs. b ∷ bs) (same_value n old new input s grown all.0) (still_outputs n old new input ss grown all.1)

pub output_parted : (g : SumGraphView) (j : ℕ) (places : List ℕ) (old new sums : List SumView) (s whole : SumView) → IsSumGraph g
    → AreOutputsParted g j places old sums → slice_get g.outputs j ≡ Some s → IsOutputRebuilt places s old new whole
    → AreOutputsParted g (j + 1) places new (sums ++ whole ∷ [])
output_parted g j places old new sums s whole graph are e is =
    let n = g.inputs in
    let known : IsKnownSum n (length places) s = subst (λ (i : ℕ). IsKnownSum n i s) (sym are.long) (output_known g j s graph e) in
    let over = over_places g places old s are.standing known in
    let grown = grown_by places s old new is.sum is.rebuilt in
    let next = products_next g.outputs j s e in
    record {
      standing = standing_still g places s old new is.sum are.standing known is.rebuilt;
      long = are.long;
      many = omega (arith, length-append sums (whole ∷ []), are.many);
      known = AllByRecursion-push (IsKnownSum n (length new)) sums whole
          (AllByRecursion-weaker (IsKnownSum n (length old)) (IsKnownSum n (length new)) (λ t k. still_known n old new t grown k) sums are.known)
          (is.finished.over (is_known n (length new)) (is.rebuilt.over n are.standing.known over));
      values = λ input.
          map-append (sum_on new input) sums (whole ∷ [])
          ∙ ap₂ ◌++◌ (still_outputs n old new input sums grown are.known ∙ are.values input)
          (ap (λ b. b ∷ [])
          (is.finished.values (bit_on new input) ∙ is.rebuilt.values n are.standing.known over input ∙ value_at_places g places old input s are.standing known))
          ∙ sym (map-append (sum_on g.nodes input) (take j g.outputs) (s ∷ []))
          ∙ sym (ap (map (sum_on g.nodes input)) (take_next g.outputs j s e));
      bits = AllByRecursion-push HasNoProduct sums whole are.bits (omega (arith, is.finished.few, is.none));
      few = omega (arith, is.rebuilt.few, are.few, next);
      products = omega (arith, is.rebuilt.products, are.products, next);
    }

-- ---- the graph

no_products : (sums : List SumView) → AllByRecursion HasNoProduct sums → products_in sums ≡ 0
no_products [] all = refl
no_products (s ∷ ss) all = omega (arith, sum_by-cons (λ (t : SumView). length t.products) s ss, all.0, no_products ss all.1)

-- the graph of the new nodes and outputs
abbrev pub graph_of : ℕ → List SumView → List SumView → SumGraphView
graph_of inputs nodes outputs = record { inputs = inputs; nodes = nodes; outputs = outputs }

pub record IsDone (g s : SumGraphView) : Type 0 where
  pub keeps : IsSumGraph s
  pub single : IsSingleOf g s

pub done : (g : SumGraphView) (places : List ℕ) (nodes sums : List SumView) → IsSumGraph g → most_nodes g ≤ MOST_WRITES
    → AreOutputsParted g (length g.outputs) places nodes sums → IsDone g (graph_of g.inputs nodes sums)
done g places nodes sums graph room are =
    let all = products_all g.outputs in
    let none = no_products sums are.bits in
    record {
      keeps = record {
        nodes = are.standing.known;
        outputs = are.known;
        some = λ some. some_outputs g nodes sums graph are.many (omega (arith, are.few, all, some));
        few_inputs = graph.few_inputs;
        few_outputs = omega (arith, are.many, graph.few_outputs);
        few_nodes = omega (arith, are.few, all, room);
      };
      single = record {
        inputs = refl;
        outputs = are.many;
        values = λ input. are.values input ∙ ap (map (sum_on g.nodes input)) (take_all (length g.outputs) g.outputs (omega arith));
        single = are.standing.single;
        bits = are.bits;
        products = omega (arith, are.products, all, none);
        few = omega (arith, are.few, all);
        few_bits = are.standing.few_bits;
      };
    }
  where
    some_outputs : (g : SumGraphView) (nodes sums : List SumView) → IsSumGraph g → length sums ≡ length g.outputs → 1 ≤ most_nodes g → 1 ≤ length sums
    some_outputs g nodes sums graph many some = by g.outputs refl
      where
        no_nodes : (nodes : List SumView) → g.nodes ≡ nodes → length g.outputs ≡ 0 → products_in g.outputs ≡ 0 → ⊥
        no_nodes [] e outputs none =
            let nodes_none : length g.nodes ≡ 0 = ap length e in
            let products_none : products_in g.nodes ≡ 0 = ap products_in e in
            omega (arith, some, nodes_none, products_none, none)
        no_nodes (s ∷ ss) e outputs none = let more : 1 ≤ length g.nodes = rw e (omega arith) in omega (arith, graph.some more, outputs)

        by : (outputs : List SumView) → g.outputs ≡ outputs → 1 ≤ length sums
        by (s ∷ ss) e = omega (arith, many, ap length e)
        by [] e =
            let no_outputs : length g.outputs ≡ 0 = ap length e in
            let none : products_in g.outputs ≡ 0 = ap products_in e in
            absurd (no_nodes g.nodes refl no_outputs none)

-- as the code comes to it
pub done_as : (g : SumGraphView) (places : List ℕ) (made nodes sums : List SumView) (inputs : ℕ) → inputs ≡ g.inputs → nodes ≡ made → IsSumGraph g
    → most_nodes g ≤ MOST_WRITES → AreOutputsParted g (length g.outputs) places made sums → IsDone g (graph_of inputs nodes sums)
done_as g places made nodes sums inputs is same graph room are = rw (is, same) (done g places made sums graph room are)

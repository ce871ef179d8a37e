-- Sums whose products became nodes.
use Rattle.std.proofs.Common.{◌≡◌, ◌⊎◌, ℕ, ◌+◌, ◌<◌, ◌≤◌, ◌==◌, Bool, true, false, cond, List, [], ◌∷◌, ◌++◌, length, take, slice_get, Some}
use Rattle.std.proofs.Common.{refl, sym, ap, ap₂, ◌∙◌, subst, inl, inr, arith, append_assoc, append-nil}
use Rattle.std.specs.Bool.{xor}
use Rattle.std.specs.List.{AllByRecursion}
use Rattle.std.proofs.lemmas.Bool.{eqb-true, lt-ltb}
use Rattle.std.proofs.lemmas.List.{length-append, length-take-le, take_all}
use Rattle.std.proofs.lemmas.List.Sums.{sum_by-append, sum_by-cons}
use Rattle.std.proofs.lemmas.Option.{slice_get_within}
use Rattle.list_facts.proofs.AllLemmas.{AllByRecursion-push}
use Rattle.list_facts.proofs.BitLemmas.{xor_none, xor_nothing}
use Rattle.dependency_graph.specs.declared.node.Base.{Base}
use Rattle.dependency_graph.specs.declared.node.Base.TheVariants as bases
use Rattle.bit_sums.specs.Growing.{FactorView, IsFinished, IsSumOf, sum_of_factor}
use Rattle.bit_sums.specs.Sums.{ProductView, SumView, IsSumOver, sum_value}
use Rattle.sum_graph.specs.Graphs.{AreKnownSums, HasFewBits, IsKnownSum, IsNodeAt, bit_sum, is_known}
use Rattle.sum_graph.proofs.PlaceLemmas.{IsGrown, all_grown, few_grown, grown_from, known_grown, longer, products_grown, same_value, still_known}
use Rattle.sum_graph.proofs.SumNodeLemmas.{base_further, sum_same, value_of_sum}
use Rattle.sum_graph.proofs.WalkLemmas.{take_next}
use Rattle.single_products.specs.Singles.{HasOneProduct}
use Rattle.single_products.specs.inside.Parting.{IsPart, IsRebuiltBut, IsRebuiltTo}
use Rattle.single_products.specs.inside.Renumbering.{IsRebuilt, IsRenumbered, at_places, bit_on, product_sum, renumbered, with_first}
use Rattle.single_products.proofs.RenumberingLemmas.{finished_renumbered, joined, over_left, over_right, sum_weaker, value_joined}

-- ---- bases among nodes that grew

bit_alone : (v : Bool) → xor false (xor (xor v false) false) ≡ v
bit_alone v = xor_none (xor (xor v false) false) ∙ xor_nothing (xor v false) ∙ xor_nothing v

-- a base as a sum
known_bit : (n k : ℕ) (b : Base) → is_known n k b ≡ true → IsKnownSum n k (bit_sum b)
known_bit n k b known = record { bits = (known, tt); products = tt }

pub bit_still : (n : ℕ) (old new : List SumView) (input : List Bool) (b : Base) → IsGrown old new → is_known n (length old) b ≡ true
    → bit_on new input b ≡ bit_on old input b
bit_still n old new input b g known =
    sym (bit_alone (bit_on new input b)) ∙ same_value n old new input (bit_sum b) g (known_bit n (length old) b known) ∙ bit_alone (bit_on old input b)

-- a sum over the places is known among more nodes, with the same value
places_further : (n : ℕ) (places : List ℕ) (old new : List SumView) (s : SumView) → IsGrown old new
    → IsSumOver (at_places places (is_known n (length old))) s → IsSumOver (at_places places (is_known n (length new))) s
places_further n places old new s g over =
    sum_weaker (at_places places (is_known n (length old))) (at_places places (is_known n (length new)))
    (λ b known. base_further n (length old) (length new) (longer old new g) (renumbered places b) known) s over

places_same : (n : ℕ) (places : List ℕ) (old new : List SumView) (input : List Bool) (s : SumView) → IsGrown old new
    → IsSumOver (at_places places (is_known n (length old))) s
    → sum_value (at_places places (bit_on new input)) s ≡ sum_value (at_places places (bit_on old input)) s
places_same n places old new input s g over =
    sum_same (at_places places (bit_on new input)) (at_places places (bit_on old input)) (at_places places (is_known n (length old)))
    (λ b known. bit_still n old new input (renumbered places b) g known) s over

-- ---- a sum that took no node

pub rebuilt_alone : (places : List ℕ) (s : SumView) (nodes : List SumView) (sum : SumView) → IsRenumbered places s sum → IsRebuilt places s nodes nodes sum
rebuilt_alone places s nodes sum r = record {
  more = [];
  grown = sym (append-nil nodes);
  few = omega arith;
  products = omega (arith, r.few);
  single = λ all. all;
  few_bits = λ all. all;
  known = λ n known over. known;
  over = λ n known over. r.over (is_known n (length nodes)) over;
  values = λ n known over input. r.values (bit_on nodes input);
}

-- ---- the sum of two

pub rebuilt_added : (places : List ℕ) (s t : SumView) (old mid new : List SumView) (a b sum : SumView) → IsRebuilt places s old mid a
    → IsRebuilt places t mid new b → IsSumOf a b sum → IsRebuilt places (joined s t) old new sum
rebuilt_added places s t old mid new a b sum first second is =
    let before : IsGrown old mid = record { more = first.more; is = first.grown } in
    let behind : IsGrown mid new = record { more = second.more; is = second.grown } in
    let long = length-append s.products t.products in
    let left = λ (n : ℕ) (over : IsSumOver (at_places places (is_known n (length old))) (joined s t)).
    over_left (at_places places (is_known n (length old))) s t over in
    let right = λ (n : ℕ) (over : IsSumOver (at_places places (is_known n (length old))) (joined s t)).
    over_right (at_places places (is_known n (length old))) s t over in
    record {
      more = first.more ++ second.more;
      grown = second.grown ∙ ap (λ (l : List SumView). l ++ second.more) first.grown ∙ append_assoc old first.more second.more;
      few = omega (arith, first.few, second.few, long);
      products = omega (arith, first.products, second.products, is.few, long);
      single = λ all. second.single (first.single all);
      few_bits = λ all. second.few_bits (first.few_bits all);
      known = λ n known over. second.known n (first.known n known (left n over)) (places_further n places old mid t before (right n over));
      over = λ n known over.
          is.over (is_known n (length new)) (still_known n mid new a behind (first.over n known (left n over)))
          (second.over n (first.known n known (left n over)) (places_further n places old mid t before (right n over)));
      values = λ n known over input.
          is.values (bit_on new input)
          ∙ ap₂ xor (same_value n mid new input a behind (first.over n known (left n over)) ∙ first.values n known (left n over) input)
          (second.values n (first.known n known (left n over)) (places_further n places old mid t before (right n over)) input
          ∙ places_same n places old mid input t before (right n over))
          ∙ sym (value_joined (at_places places (bit_on old input)) s t);
    }

-- ---- a product

pub part_kept : (places : List ℕ) (p : ProductView) (nodes : List SumView) (sum : SumView) → IsRenumbered places (product_sum p) sum
    → IsPart true places p nodes nodes sum
part_kept places p nodes sum r = record { rebuilt = rebuilt_alone places (product_sum p) nodes sum r; left = r.few }

pub part_short : (places : List ℕ) (p : ProductView) (nodes : List SumView) (sum whole : SumView) (factor : FactorView)
    → IsRenumbered places (product_sum p) sum → IsFinished sum whole → whole ≡ sum_of_factor factor
    → IsPart false places p nodes nodes (sum_of_factor factor)
part_short places p nodes sum whole factor r f is = record {
  rebuilt = rebuilt_alone places (product_sum p) nodes (sum_of_factor factor)
      (subst (IsRenumbered places (product_sum p)) is (finished_renumbered places (product_sum p) sum whole r f));
  left = omega arith;
}

-- the sum of a product is a node
pub part_node : (places : List ℕ) (p : ProductView) (old new : List SumView) (sum whole : SumView) (place : ℕ)
    → IsRenumbered places (product_sum p) sum → IsFinished sum whole → IsNodeAt whole old new place
    → IsPart false places p old new (bit_sum (bases.Node place))
part_node places p old new sum whole place r f at =
    let made = finished_renumbered places (product_sum p) sum whole r f in
    let g = grown_from whole old new at.grown in
    let low : place < length new = slice_get_within new place whole at.found in
    let nodes = λ (n : ℕ) (known : AreKnownSums n 0 old) (over : IsSumOver (at_places places (is_known n (length old))) (product_sum p)).
    known_grown n old new whole known (made.over (is_known n (length old)) over) at.grown in
    record {
      rebuilt = record {
        more = g.more;
        grown = g.is;
        few = few_grown old new whole at.grown;
        products = omega (arith, products_grown old new whole at.grown, made.few);
        single = λ all. all_grown HasOneProduct old new whole all made.few at.grown;
        few_bits = λ all. all_grown HasFewBits old new whole all f.few_bits at.grown;
        known = nodes;
        over = λ n known over. record { bits = (lt-ltb place (length new) low, tt); products = tt };
        values = λ n known over input.
            bit_alone (bit_on new input (bases.Node place))
            ∙ value_of_sum n new input place whole (nodes n known over) at.found
            ∙ same_value n old new input whole g (made.over (is_known n (length old)) over)
            ∙ made.values (bit_on old input);
      };
      left = omega arith;
    }

-- ---- the products of a sum, one after another

pub rebuilt_begun : (kept : ℕ) (places : List ℕ) (s : SumView) (nodes : List SumView) (sum : SumView) → IsRenumbered places (with_first 0 s) sum
    → IsRebuiltTo 0 kept places s nodes nodes sum
rebuilt_begun kept places s nodes sum r =
    let none : length sum.products ≤ 0 = r.few in
    record {
      rebuilt = rebuilt_alone places (with_first 0 s) nodes sum r;
      one = omega (arith, none);
      before = λ le. omega (arith, none);
    }

-- there is room for a node of one product more
pub part_room : (k kept most : ℕ) (places : List ℕ) (s : SumView) (old now : List SumView) (so_far : SumView) → length old + length s.products ≤ most
    → k < length s.products → IsRebuiltTo k kept places s old now so_far → length now < most
part_room k kept most places s old now so_far room low r =
    omega (arith, room, low, r.rebuilt.few, length-take-le k s.products (omega (arith, low)))

one_more_product : (k : ℕ) (s : SumView) (p : ProductView) → slice_get s.products k ≡ Some p → joined (with_first k s) (product_sum p) ≡ with_first (k + 1) s
one_more_product k s p e =
    let first : take k s.products ++ p ∷ [] ≡ take (k + 1) s.products = sym (take_next s.products k p e) in
    rw (append-nil s.bits, first, xor_nothing s.one) refl

abbrev kept_count : Bool → ℕ
kept_count keep = cond keep 1 0

pub rebuilt_more : (k kept : ℕ) (places : List ℕ) (s : SumView) (p : ProductView) (old mid new : List SumView) (so_far part sum : SumView) (keep : Bool)
    → slice_get s.products k ≡ Some p → keep ≡ (k == kept) → IsRebuiltTo k kept places s old mid so_far → IsPart keep places p mid new part
    → IsSumOf so_far part sum → IsRebuiltTo (k + 1) kept places s old new sum
rebuilt_more k kept places s p old mid new so_far part sum keep e same before is both =
    let left = counted k kept keep same in
    let part_left : length part.products ≤ kept_count keep = is.left in
    record {
      rebuilt = subst (λ t. IsRebuilt places t old new sum) (one_more_product k s p e)
          (rebuilt_added places (with_first k s) (product_sum p) old mid new so_far part sum before.rebuilt is.rebuilt both);
      one = elim left [
        | inl at ↦ omega (arith, both.few, before.before (omega (arith, at.0)), part_left, at.1)
        | inr other ↦ omega (arith, both.few, before.one, part_left, other)
      ];
      before = λ le. elim left [
        | inl at ↦ absurd (omega (arith, at.0, le))
        | inr other ↦ omega (arith, both.few, before.before (omega (arith, le)), part_left, other)
      ];
    }
  where
    counted : (k kept : ℕ) (keep : Bool) → keep ≡ (k == kept) → ((k ≡ kept) × (kept_count keep ≡ 1)) ⊎ (kept_count keep ≡ 0)
    counted k kept true same = inl (eqb-true k kept (sym same), refl)
    counted k kept false same = inr refl

pub rebuilt_done : (k kept : ℕ) (places : List ℕ) (s : SumView) (old new : List SumView) (sum : SumView) → k ≡ length s.products
    → IsRebuiltTo k kept places s old new sum → IsRebuiltBut kept places s old new sum
rebuilt_done k kept places s old new sum end r =
    let all : with_first k s ≡ s = rw (take_all k s.products (omega (arith, end))) refl in
    record {
      rebuilt = subst (λ t. IsRebuilt places t old new sum) all r.rebuilt;
      one = r.one;
      none = λ le. r.before (omega (arith, end, le));
    }

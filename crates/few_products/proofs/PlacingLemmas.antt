-- Sums over places: what stays while nodes grow, sums of two, factors and products.
use Rattle.std.proofs.Common.{◌≡◌, ℕ, ◌+◌, ◌<◌, ◌≤◌, Bool, true, false, ◌&&◌, List, [], ◌∷◌, ◌++◌, length, take, slice_get, IfOk, IfSome, Some, None, Option, Result, Ok, Err}
use Rattle.std.proofs.Common.{refl, sym, ap, ap₂, ◌∙◌, subst, arith, append_assoc, append-nil}
use Rattle.std.specs.Bool.{xor}
use Rattle.std.proofs.lemmas.Bool.{lt-ltb}
use Rattle.std.proofs.lemmas.List.{take_all}
use Rattle.std.proofs.lemmas.Option.{slice_get_within}
use Rattle.list_facts.proofs.BitLemmas.{xor_none, xor_nothing}
use Rattle.list_facts.proofs.TableLemmas.{of_four_bits}
use Rattle.revs_tape.specs.declared.limits.TheConstants.{MOST_WRITES}
use Rattle.dependency_graph.specs.declared.node.Base.{Base}
use Rattle.dependency_graph.specs.declared.node.Base.TheVariants as bases
use Rattle.bit_sums.specs.Growing.{FactorView, IsFinished, IsSumOf, IsTimes, factor_value, sum_of_factor}
use Rattle.bit_sums.specs.Sums.{ProductView, SumView, AreAll, product_value, sum_value, xor_by}
use Rattle.bit_sums.proofs.SetLemmas.{value-append}
use Rattle.sum_graph.specs.Graphs.{IsKnownSum, IsNodeAt, bit_sum, is_known}
use Rattle.sum_graph.proofs.PlaceLemmas.{IsGrown, few_grown, grown_from, known_grown, longer, same_value, still_known}
use Rattle.sum_graph.proofs.SumNodeLemmas.{value_of_sum}
use Rattle.sum_graph.proofs.WalkLemmas.{take_next}
use Rattle.few_products.specs.declared.placing.Place.{Place}
use Rattle.few_products.specs.declared.placing.Written.{Written}
use Rattle.few_products.specs.inside.Writing.{Agree, ArePlaces, IsAtPlace, IsReady, Keeps, IsFactorAt, IsPlaceOf, IsWritten, StandsFor, bit_on, only_bits, product_sum}

-- ---- nodes that grow

one_bit : (v : Bool) → xor false (xor (xor v false) false) ≡ v
one_bit v = xor_none (xor (xor v false) false) ∙ xor_nothing (xor v false) ∙ xor_nothing v

known_bit : (n k : ℕ) (b : Base) → is_known n k b ≡ true → IsKnownSum n k (bit_sum b)
known_bit n k b known = record { bits = (known, tt); products = tt }

bit_still : (n : ℕ) (old new : List SumView) (input : List Bool) (b : Base) → IsGrown old new → is_known n (length old) b ≡ true
    → bit_on new input b ≡ bit_on old input b
bit_still n old new input b g known =
    sym (one_bit (bit_on new input b)) ∙ same_value n old new input (bit_sum b) g (known_bit n (length old) b known) ∙ one_bit (bit_on old input b)

pub agree_still : (n : ℕ) (places : List (Option Place)) (old new : List SumView) (input : List Bool) (bit : Base → Bool) → ArePlaces n places old
    → IsGrown old new → Agree places old input bit → Agree places new input bit
agree_still n places old new input bit are g agree = record {
  inputs = agree.inputs;
  nodes_agree = λ k place e.
      agree.nodes_agree k place e
      ∙ ap (xor place.negated) (sym (bit_still n old new input (bases.Node place.node) g (lt-ltb place.node (length old) (are.within k place e))));
}

pub within_still : (n : ℕ) (places : List (Option Place)) (old new : List SumView) → ArePlaces n places old → IsGrown old new
    → (k : ℕ) (place : Place) → slice_get places k ≡ Some (Some place) → place.node < length new
within_still n places old new are g k place e = omega (arith, are.within k place e, longer old new g)

-- ---- sums

pub written_alone : (n : ℕ) (places : List (Option Place)) (s sum : SumView) (nodes : List SumView) → ArePlaces n places nodes
    → StandsFor n places s sum → IsWritten n places s nodes nodes sum
written_alone n places s sum nodes are stands = record {
  more = [];
  grown = sym (append-nil nodes);
  still = are;
  few = λ few. few;
  known = stands.known nodes are;
  values = λ input bit agree. stands.values nodes input bit agree;
}

-- a sum with the first k of its products
abbrev pub with_first : ℕ → SumView → SumView
with_first k s = record { bits = s.bits; products = take k s.products; one = s.one }

one_product_more : (o b t q : Bool) → xor (xor o (xor b t)) (xor false (xor false q)) ≡ xor o (xor b (xor t q))
unfolding mathlib.Core.Bool.xor
one_product_more = of_four_bits (λ o b t q. xor (xor o (xor b t)) (xor false (xor false q))) (λ o b t q. xor o (xor b (xor t q))) refl

value_more : (bit : Base → Bool) (k : ℕ) (s : SumView) (p : ProductView) → slice_get s.products k ≡ Some p
    → xor (sum_value bit (with_first k s)) (sum_value bit (product_sum p)) ≡ sum_value bit (with_first (k + 1) s)
value_more bit k s p e =
    let test = product_value bit in
    one_product_more s.one (xor_by bit s.bits) (xor_by test (take k s.products)) (xor_by test (p ∷ []))
    ∙ ap (λ v. xor s.one (xor (xor_by bit s.bits) v)) (sym (value-append test (take k s.products) (p ∷ [])))
    ∙ ap (λ l. xor s.one (xor (xor_by bit s.bits) (xor_by test l))) (sym (take_next s.products k p e))

pub written_more : (n : ℕ) (places : List (Option Place)) (k : ℕ) (s : SumView) (p : ProductView) (old mid new : List SumView)
    (so_far part sum : SumView) → ArePlaces n places old → slice_get s.products k ≡ Some p → IsWritten n places (with_first k s) old mid so_far
    → IsWritten n places (product_sum p) mid new part → IsSumOf so_far part sum → IsWritten n places (with_first (k + 1) s) old new sum
written_more n places k s p old mid new so_far part sum are e first second is =
    let before : IsGrown old mid = record { more = first.more; is = first.grown } in
    let behind : IsGrown mid new = record { more = second.more; is = second.grown } in
    record {
      more = first.more ++ second.more;
      grown = second.grown ∙ ap (λ (l : List SumView). l ++ second.more) first.grown ∙ append_assoc old first.more second.more;
      still = second.still;
      few = λ few. second.few (first.few few);
      known = is.over (is_known n (length new)) (still_known n mid new so_far behind first.known) second.known;
      values = λ input bit agree.
          is.values (bit_on new input)
          ∙ ap₂ xor (same_value n mid new input so_far behind first.known ∙ first.values input bit agree)
          (second.values input bit (agree_still n places old mid input bit are before agree))
          ∙ value_more bit k s p e;
    }

pub written_done : (n : ℕ) (places : List (Option Place)) (k : ℕ) (s : SumView) (old new : List SumView) (sum : SumView) → length s.products ≤ k
    → IsWritten n places (with_first k s) old new sum → IsWritten n places s old new sum
written_done n places k s old new sum end is =
    let all : with_first k s ≡ s = ap (λ l. record { bits = s.bits; products = l; one = s.one }) (take_all k s.products end) in
    subst (λ (t : SumView). IsWritten n places t old new sum) all is

-- ---- bits

pub bits_begun : (n : ℕ) (places : List (Option Place)) (one : Bool) (sum : SumView) → sum ≡ only_bits [] one → StandsFor n places (only_bits [] one) sum
bits_begun n places one sum is = subst (StandsFor n places (only_bits [] one)) (sym is) (record {
  known = λ nodes are. record { bits = tt; products = tt };
  values = λ nodes input bit agree. refl;
})

one_bit_more : (o t q b : Bool) → xor (xor o (xor t false)) (xor false (xor q false)) ≡ xor o (xor (xor t q) false)
unfolding mathlib.Core.Bool.xor
one_bit_more = of_four_bits (λ o t q b. xor (xor o (xor t false)) (xor false (xor q false))) (λ o t q b. xor o (xor (xor t q) false)) refl

pub bits_more : (n : ℕ) (places : List (Option Place)) (bits : List Base) (one : Bool) (k : ℕ) (b : Base) (so_far part sum : SumView)
    → slice_get bits k ≡ Some b → StandsFor n places (only_bits (take k bits) one) so_far → StandsFor n places (bit_sum b) part
    → IsSumOf so_far part sum → StandsFor n places (only_bits (take (k + 1) bits) one) sum
bits_more n places bits one k b so_far part sum e first second is = record {
  known = λ nodes are. is.over (is_known n (length nodes)) (first.known nodes are) (second.known nodes are);
  values = λ nodes input bit agree.
      is.values (bit_on nodes input)
      ∙ ap₂ xor (first.values nodes input bit agree) (second.values nodes input bit agree)
      ∙ one_bit_more one (xor_by bit (take k bits)) (xor_by bit (b ∷ [])) false
      ∙ ap (λ v. xor one (xor v false)) (sym (value-append bit (take k bits) (b ∷ [])) ∙ ap (xor_by bit) (sym (take_next bits k b e)));
}

pub bits_done : (n : ℕ) (places : List (Option Place)) (bits : List Base) (one : Bool) (k : ℕ) (sum : SumView) → length bits ≤ k
    → StandsFor n places (only_bits (take k bits) one) sum → StandsFor n places (only_bits bits one) sum
bits_done n places bits one k sum end is = subst (λ l. StandsFor n places (only_bits l one) sum) (take_all k bits end) is

pub input_stands : (n : ℕ) (places : List (Option Place)) (i : ℕ) (sum : SumView) → i < n → sum ≡ bit_sum (bases.Input i)
    → StandsFor n places (bit_sum (bases.Input i)) sum
input_stands n places i sum low is = subst (StandsFor n places (bit_sum (bases.Input i))) (sym is) (record {
  known = λ nodes are. known_bit n (length nodes) (bases.Input i) (lt-ltb i n low);
  values = λ nodes input bit agree. ap (λ v. xor false (xor (xor v false) false)) (sym (agree.inputs i));
})

pub node_stands : (n : ℕ) (places : List (Option Place)) (k : ℕ) (sum : SumView) → IsAtPlace places k sum → StandsFor n places (bit_sum (bases.Node k)) sum
node_stands n places k sum at =
    let place = at.place in
    let e = at.found in
    let whole = at.is in
    subst (StandsFor n places (bit_sum (bases.Node k))) (sym whole) (record {
      known = λ nodes are. record { bits = (lt-ltb place.node (length nodes) (are.within k place e), tt); products = tt };
      values = λ nodes input bit agree.
          let v = bit_on nodes input (bases.Node place.node) in
          ap (xor place.negated) (xor_nothing (xor v false) ∙ xor_nothing v)
          ∙ sym (agree.nodes_agree k place e)
          ∙ sym (one_bit (bit (bases.Node k)));
    })

-- what was found of a base
pub input_found : {E : Type 0} (n : ℕ) (places : List (Option Place)) (i : ℕ) (b : Base) (r : Result (Option SumView) E) → b ≡ bases.Input i
    → IfOk r (λ found. IfSome found (λ sum. (i < n) × (sum ≡ bit_sum (bases.Input i)))) → IfOk r (λ found. IfSome found (StandsFor n places (bit_sum b)))
input_found n places i b (Ok None) at is = tt
input_found n places i b (Ok (Some sum)) at is =
    subst (λ (x : Base). StandsFor n places (bit_sum x) sum) (sym at) (input_stands n places i sum is.0 is.1)
input_found n places i b (Err e) at is = tt

pub node_found : {E : Type 0} (n : ℕ) (places : List (Option Place)) (k : ℕ) (b : Base) (r : Result (Option SumView) E) → b ≡ bases.Node k
    → IfOk r (λ found. IfSome found (IsAtPlace places k)) → IfOk r (λ found. IfSome found (StandsFor n places (bit_sum b)))
node_found n places k b (Ok None) at is = tt
node_found n places k b (Ok (Some sum)) at is = subst (λ (x : Base). StandsFor n places (bit_sum x) sum) (sym at) (node_stands n places k sum is)
node_found n places k b (Err e) at is = tt

-- ---- a sum as a node

-- the constant and the rest
split_one : (bit : Base → Bool) (whole : SumView) → xor whole.one (sum_value bit (record whole { one = false })) ≡ sum_value bit whole
split_one bit whole = ap (xor whole.one) (xor_none _)

pub placed : (n : ℕ) (places : List (Option Place)) (s : SumView) (old mid new : List SumView) (sum whole : SumView) (place : Place)
    → IsWritten n places s old mid sum → IsFinished sum whole → length mid < MOST_WRITES
    → IsNodeAt (record whole { one = false }) mid new place.node → place.negated ≡ whole.one → IsPlaceOf n places s old new place
placed n places s old mid new sum whole place written finished room at one =
    let rest : SumView = record whole { one = false } in
    let whole_known = finished.over (is_known n (length mid)) written.known in
    let rest_known : IsKnownSum n (length mid) rest = record { bits = whole_known.bits; products = whole_known.products } in
    let g = grown_from rest mid new at.grown in
    let known = known_grown n mid new rest written.still.known rest_known at.grown in
    record {
      more = written.more ++ g.more;
      grown = g.is ∙ ap (λ (l : List SumView). l ++ g.more) written.grown ∙ append_assoc old written.more g.more;
      known = known;
      within = slice_get_within new place.node rest at.found;
      few = omega (arith, few_grown mid new rest at.grown, room);
      values = λ input bit agree.
          ap₂ xor one (value_of_sum n new input place.node rest known at.found)
          ∙ split_one (bit_on new input) whole
          ∙ same_value n mid new input whole g whole_known
          ∙ finished.values (bit_on mid input)
          ∙ written.values input bit agree;
    }

-- ---- factors

pub factor_sum : (bit : Base → Bool) (f : FactorView) → sum_value bit (sum_of_factor f) ≡ factor_value bit f
factor_sum bit f = ap (xor f.one) (xor_nothing _)

only_value : (bit : Base → Bool) (bits : List Base) → sum_value bit (only_bits bits false) ≡ xor_by bit bits
only_value bit bits = xor_none (xor (xor_by bit bits) false) ∙ xor_nothing (xor_by bit bits)

pub factor_short : (n : ℕ) (places : List (Option Place)) (bits : List Base) (nodes : List SumView) (sum whole : SumView) (factor : FactorView)
    → ArePlaces n places nodes → StandsFor n places (only_bits bits false) sum → IsFinished sum whole → whole ≡ sum_of_factor factor
    → IsFactorAt n places bits nodes nodes factor
factor_short n places bits nodes sum whole factor are stands finished is =
    let known : IsKnownSum n (length nodes) (sum_of_factor factor) =
    subst (IsKnownSum n (length nodes)) is (finished.over (is_known n (length nodes)) (stands.known nodes are)) in
    record {
      more = [];
      grown = sym (append-nil nodes);
      still = are;
      few = λ few. few;
      known = known.bits;
      values = λ input bit agree.
          sym (factor_sum (bit_on nodes input) factor)
          ∙ ap (sum_value (bit_on nodes input)) (sym is)
          ∙ finished.values (bit_on nodes input)
          ∙ stands.values nodes input bit agree
          ∙ only_value bit bits;
    }

pub factor_node : (n : ℕ) (places : List (Option Place)) (bits : List Base) (old new : List SumView) (place : Place) (factor : FactorView)
    → ArePlaces n places old → IsPlaceOf n places (only_bits bits false) old new place
    → factor ≡ record { bits = bases.Node place.node ∷ []; one = place.negated } → IsFactorAt n places bits old new factor
factor_node n places bits old new place factor are at is =
    let g : IsGrown old new = record { more = at.more; is = at.grown } in
    subst (IsFactorAt n places bits old new) (sym is) (record {
      more = at.more;
      grown = at.grown;
      still = record { known = at.known; within = within_still n places old new are g };
      few = λ few. at.few;
      known = (lt-ltb place.node (length new) at.within, tt);
      values = λ input bit agree.
          ap (xor place.negated) (xor_nothing (bit_on new input (bases.Node place.node)))
          ∙ at.values input bit agree
          ∙ only_value bit bits;
    })

-- ---- products

factor_still : (n : ℕ) (mid new : List SumView) (input : List Bool) (f : FactorView) → IsGrown mid new → AreAll (is_known n (length mid)) f.bits
    → factor_value (bit_on new input) f ≡ factor_value (bit_on mid input) f
factor_still n mid new input f g known =
    sym (factor_sum (bit_on new input) f)
    ∙ same_value n mid new input (sum_of_factor f) g (record { bits = known; products = tt })
    ∙ factor_sum (bit_on mid input) f

product_alone : (v : Bool) → v ≡ xor false (xor false (xor v false))
product_alone v = sym (xor_none (xor false (xor v false)) ∙ xor_none (xor v false) ∙ xor_nothing v)

pub product_written : (n : ℕ) (places : List (Option Place)) (p : ProductView) (old mid new : List SumView) (a b : FactorView) (sum : SumView)
    → ArePlaces n places old → IsFactorAt n places p.first old mid a → IsFactorAt n places p.second mid new b → IsTimes a b sum
    → IsWritten n places (product_sum p) old new sum
product_written n places p old mid new a b sum are first second is =
    let before : IsGrown old mid = record { more = first.more; is = first.grown } in
    let behind : IsGrown mid new = record { more = second.more; is = second.grown } in
    let further : AreAll (is_known n (length new)) a.bits = (still_known n mid new (sum_of_factor a) behind
    (record { bits = first.known; products = tt })).bits in
    record {
      more = first.more ++ second.more;
      grown = second.grown ∙ ap (λ (l : List SumView). l ++ second.more) first.grown ∙ append_assoc old first.more second.more;
      still = second.still;
      few = λ few. second.few (first.few few);
      known = is.over (is_known n (length new)) further second.known;
      values = λ input bit agree.
          is.values (bit_on new input)
          ∙ ap₂ ◌&&◌ (factor_still n mid new input a behind first.known ∙ first.values input bit agree)
          (second.values input bit (agree_still n places old mid input bit are before agree))
          ∙ product_alone (product_value bit p);
    }

-- ---- what is kept while nodes are written

pub kept_same : (w : Written) → Keeps w w
kept_same w = record { inputs = refl; places = refl }

pub kept_further : (old mid new : Written) → Keeps old mid → Keeps mid new → Keeps old new
kept_further old mid new first second = record { inputs = second.inputs ∙ first.inputs; places = second.places ∙ first.places }

pub still_ready : (old new : Written) → Keeps old new → ArePlaces old.inputs old.places.items new.nodes.keys → IsReady new
still_ready old new kept are = rw (kept.inputs, kept.places) are

-- what holds of the inputs and places later holds of those before
pub of_first : (P : ℕ → List (Option Place) → Type 0) (old new : Written) → Keeps old new → P new.inputs new.places.items → P old.inputs old.places.items
of_first P old new kept is = subst (λ n. P n old.places.items) kept.inputs (subst (λ (l : List (Option Place)). P new.inputs l) kept.places is)

pub of_later : (P : ℕ → List (Option Place) → Type 0) (old new : Written) → Keeps old new → P old.inputs old.places.items → P new.inputs new.places.items
of_later P old new kept is =
    subst (λ n. P n new.places.items) (sym kept.inputs) (subst (λ (l : List (Option Place)). P old.inputs l) (sym kept.places) is)

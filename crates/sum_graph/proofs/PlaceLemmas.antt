-- Sums that are placed: the nodes of the lean graph that have them, and what the slots keep.
use Rattle.std.proofs.Common.{◌≡◌, ◌⊎◌, ℕ, ◌+◌, ◌≤◌, Bool, true, false, cond, List, [], ◌∷◌, ◌++◌, length, slice_get, Some}
use Rattle.std.proofs.Common.{refl, sym, ap, ◌∙◌, subst, inl, inr, arith, append-nil}
use Rattle.std.specs.Bool.{xor}
use Rattle.std.specs.List.{AllByRecursion, list_any}
use Rattle.std.proofs.lemmas.Bool.{cases_Bool, lt-ltb}
use Rattle.std.proofs.lemmas.List.{length-append}
use Rattle.std.proofs.lemmas.List.Sums.{sum_by-append, sum_by-cons}
use Rattle.std.proofs.lemmas.Option.{slice_get_within}
use Rattle.indexmap.specs.IndexSet.{insert_key}
use Rattle.list_facts.specs.Bits.{bit_of}
use Rattle.list_facts.proofs.AllLemmas.{AllByRecursion-append}
use Rattle.list_facts.proofs.BitLemmas.{xor_none, xor_nothing}
use Rattle.dependency_graph.specs.declared.node.Base.{Base}
use Rattle.dependency_graph.specs.declared.node.Base.TheVariants as bases
use Rattle.dependency_graph.specs.Graphs.{base_bit}
use Rattle.claim_check.specs.Settled.{SettledView}
use Rattle.bit_sums.specs.Growing.{FactorView, IsFinished, sum_of_factor}
use Rattle.bit_sums.specs.Sums.{SumView, sum_value, weight_of}
use Rattle.bit_sums.proofs.EqualityLemmas.{sum_eq}
use Rattle.sum_graph.specs.Graphs.{AreKnownSums, HasFewBits, HasNoConstant, IsKnownSum, is_known, products_in, sum_on, sums_made, weight_in}
use Rattle.sum_graph.specs.declared.slot.Slot.{Slot}
use Rattle.sum_graph.specs.declared.slot.Slot.TheVariants as slots
use Rattle.sum_graph.specs.inside.Placing.{IsOnNode, IsPlaced, IsShortened}
use Rattle.sum_graph.specs.inside.Walks.{AreSlots, IsSlot, StandsFor, slot_products, slot_weight}
use Rattle.sum_graph.proofs.SumNodeLemmas.{known_further, known_more, sum_on-more, value_of_sum}

-- ---- the set of nodes

pub grown_by : (sum : SumView) (old new : List SumView) → new ≡ insert_key sum_eq old sum → (new ≡ old) ⊎ (new ≡ old ++ sum ∷ [])
grown_by sum old new e = elim (cases_Bool (list_any (sum_eq sum) old)) as (λ _. (new ≡ old) ⊎ (new ≡ old ++ sum ∷ [])) [
  | inl there ↦ inl (e ∙ ap (λ b. cond b old (old ++ sum ∷ [])) there)
  | inr not_there ↦ inr (e ∙ ap (λ b. cond b old (old ++ sum ∷ [])) not_there)
]

pub found_there : (sum stored : SumView) (new : List SumView) (place : ℕ) → slice_get new place ≡ Some stored → sum ≡ stored → slice_get new place ≡ Some sum
found_there sum stored new place e same = e ∙ ap Some (sym same)

-- ---- more nodes

-- nodes that grew, or stayed
pub record IsGrown (old new : List SumView) : Type 0 where
  pub more : List SumView
  pub is : new ≡ old ++ more

pub grown_from : (sum : SumView) (old new : List SumView) → (new ≡ old) ⊎ (new ≡ old ++ sum ∷ []) → IsGrown old new
grown_from sum old new (inl same) = record { more = []; is = same ∙ sym (append-nil old) }
grown_from sum old new (inr more) = record { more = sum ∷ []; is = more }

pub longer : (old new : List SumView) → IsGrown old new → length old ≤ length new
longer old new g = let e : length new ≡ length old + length g.more = ap length g.is ∙ length-append old g.more in omega (arith, e)

pub still_known : (n : ℕ) (old new : List SumView) (sum : SumView) → IsGrown old new → IsKnownSum n (length old) sum → IsKnownSum n (length new) sum
still_known n old new sum g known = known_further n (length old) (length new) (longer old new g) sum known

pub same_value : (n : ℕ) (old new : List SumView) (input : List Bool) (sum : SumView) → IsGrown old new → IsKnownSum n (length old) sum
    → sum_on new input sum ≡ sum_on old input sum
same_value n old new input sum g known = ap (λ nodes. sum_on nodes input sum) g.is ∙ sum_on-more n old g.more input sum known

still_stands : (s : SettledView) (old new : List SumView) (base : Base) (sum : SumView) → IsGrown old new → StandsFor s old base sum → StandsFor s new base sum
still_stands s old new base sum g is = record {
  known = still_known s.inputs old new sum g is.known;
  values = λ input. same_value s.inputs old new input sum g is.known ∙ is.values input;
}

still_slot : (s : SettledView) (old new : List SumView) (shared : List Bool) (left : List ℕ) (k : ℕ) (slot : Slot) → IsGrown old new
    → IsSlot s old shared left k slot → IsSlot s new shared left k slot
still_slot s old new shared left k slots.Moved g is = is
still_slot s old new shared left k (slots.Sum sum) g is = (still_stands s old new (bases.Node k) sum g is.0, is.1)
still_slot s old new shared left k (slots.Factor factor) g is = (still_stands s old new (bases.Node k) (sum_of_factor factor) g is.0, is.1)

-- ---- a sum is placed

-- What placing a sum keeps: the slot has its value over the nodes, which grew by one at most.
pub record IsAtHome (s : SettledView) (shared : Bool) (sum : SumView) (old new : List SumView) (slot : Slot) : Type 0 where
  pub grown : IsGrown old new
  pub known : AreKnownSums s.inputs 0 new
  pub few : length new ≤ length old + 1
  pub products : products_in new + slot_products slot ≤ products_in old + length sum.products
  pub light : weight_in new + slot_weight slot ≤ weight_in old + weight_of sum
  pub no_constants : AllByRecursion HasNoConstant old → AllByRecursion HasNoConstant new
  pub few_bits : AllByRecursion HasFewBits old → AllByRecursion HasFewBits new
  pub stays : shared ≡ false → slot ≡ slots.Sum sum
  pub factor : shared ≡ true → (f : FactorView) × (slot ≡ slots.Factor f) × IsKnownSum s.inputs (length new) (sum_of_factor f)
      × ((input : List Bool) → sum_on new input (sum_of_factor f) ≡ sum_on old input sum)

over_new : (s : SettledView) (old new : List SumView) (sum whole : SumView) → IsGrown old new → IsKnownSum s.inputs (length old) sum → IsFinished sum whole
    → (input : List Bool) → sum_on new input whole ≡ sum_on old input sum
over_new s old new sum whole g known f input =
    f.values (base_bit (bit_of input) (sums_made (bit_of input) [] new)) ∙ same_value s.inputs old new input sum g known

-- the constant and the rest
split_one : (bit : Base → Bool) (whole : SumView) → sum_value bit whole ≡ xor whole.one (sum_value bit (record whole { one = false }))
split_one bit whole = ap (xor whole.one) (sym (xor_none _))

one_bit_value : (one b : Bool) → xor one (xor (xor b false) false) ≡ xor one b
one_bit_value one b = ap (xor one) (xor_nothing (xor b false) ∙ xor_nothing b)

shortened : (s : SettledView) (sum : SumView) (old new : List SumView) (slot : Slot) → AreKnownSums s.inputs 0 old → IsKnownSum s.inputs (length old) sum
    → IsShortened sum old new slot → IsAtHome s true sum old new slot
shortened s sum old new slot nodes known is =
    let g = grown_from sum old new (inl is.same) in
    record {
      grown = g;
      known = subst (AreKnownSums s.inputs 0) (sym is.same) nodes;
      few = rw is.same (omega arith);
      products = rw (is.same, is.is) (omega arith);
      light = rw (is.same, is.is) (omega arith);
      no_constants = λ none. subst (AllByRecursion HasNoConstant) (sym is.same) none;
      few_bits = λ few. subst (AllByRecursion HasFewBits) (sym is.same) few;
      stays = λ no. cc;
      factor = λ yes. (
        is.factor,
        is.is,
        still_known s.inputs old new (sum_of_factor is.factor) g (is.finished.over (is_known s.inputs (length old)) known),
        over_new s old new sum (sum_of_factor is.factor) g known is.finished,
      );
    }

pub products_grown : (old new : List SumView) (sum : SumView) → (new ≡ old) ⊎ (new ≡ old ++ sum ∷ []) → products_in new ≤ products_in old + length sum.products
products_grown old new sum (inl same) = rw same (omega arith)
products_grown old new sum (inr more) =
    rw more (omega (arith, sum_by-append (λ (s : SumView). length s.products) old (sum ∷ []), sum_by-cons (λ (s : SumView). length s.products) sum []))

weight_grown : (old new : List SumView) (sum : SumView) → (new ≡ old) ⊎ (new ≡ old ++ sum ∷ []) → weight_in new ≤ weight_in old + weight_of sum
weight_grown old new sum (inl same) = rw same (omega arith)
weight_grown old new sum (inr more) = rw more (omega (arith, sum_by-append weight_of old (sum ∷ []), sum_by-cons weight_of sum []))

pub few_grown : (old new : List SumView) (sum : SumView) → (new ≡ old) ⊎ (new ≡ old ++ sum ∷ []) → length new ≤ length old + 1
few_grown old new sum (inl same) = rw same (omega arith)
few_grown old new sum (inr more) = rw more (omega (arith, length-append old (sum ∷ [])))

pub known_grown : (n : ℕ) (old new : List SumView) (sum : SumView) → AreKnownSums n 0 old → IsKnownSum n (length old) sum
    → (new ≡ old) ⊎ (new ≡ old ++ sum ∷ []) → AreKnownSums n 0 new
known_grown n old new sum nodes known (inl same) = subst (AreKnownSums n 0) (sym same) nodes
known_grown n old new sum nodes known (inr more) = subst (AreKnownSums n 0) (sym more) (known_more n old sum nodes known)

pub all_grown : (P : SumView → Type 0) (old new : List SumView) (sum : SumView) → AllByRecursion P old → P sum → (new ≡ old) ⊎ (new ≡ old ++ sum ∷ [])
    → AllByRecursion P new
all_grown P old new sum all is (inl same) = subst (AllByRecursion P) (sym same) all
all_grown P old new sum all is (inr more) = subst (AllByRecursion P) (sym more) (AllByRecursion-append P old (sum ∷ []) all (is, tt))

on_node : (s : SettledView) (sum : SumView) (old new : List SumView) (slot : Slot) → AreKnownSums s.inputs 0 old → IsKnownSum s.inputs (length old) sum
    → IsOnNode sum old new slot → IsAtHome s true sum old new slot
on_node s sum old new slot nodes known is =
    let rest : SumView = record is.whole { one = false } in
    let whole_known = is.finished.over (is_known s.inputs (length old)) known in
    let rest_known : IsKnownSum s.inputs (length old) rest = record { bits = whole_known.bits; products = whole_known.products } in
    let g = grown_from rest old new is.grown in
    let new_known = known_grown s.inputs old new rest nodes rest_known is.grown in
    let factor : FactorView = record { bits = bases.Node is.place ∷ []; one = is.whole.one } in
    record {
      grown = g;
      known = new_known;
      few = few_grown old new rest is.grown;
      products = rw is.is (omega (arith, products_grown old new rest is.grown, is.finished.few));
      light = rw is.is (omega (arith, weight_grown old new rest is.grown, is.finished.light));
      no_constants = λ none. all_grown HasNoConstant old new rest none refl is.grown;
      few_bits = λ few. all_grown HasFewBits old new rest few is.finished.few_bits is.grown;
      stays = λ no. cc;
      factor = λ yes. (
        factor,
        is.is,
        (record { bits = (lt-ltb is.place (length new) (slice_get_within new is.place rest is.found), tt); products = tt }),
        (λ input.
            one_bit_value is.whole.one (base_bit (bit_of input) (sums_made (bit_of input) [] new) (bases.Node is.place))
            ∙ ap (xor is.whole.one) (value_of_sum s.inputs new input is.place rest new_known is.found)
            ∙ sym (split_one (base_bit (bit_of input) (sums_made (bit_of input) [] new)) is.whole)
            ∙ over_new s old new sum is.whole g known is.finished input),
      );
    }

pub at_home : (s : SettledView) (shared : Bool) (sum : SumView) (old new : List SumView) (slot : Slot) → AreKnownSums s.inputs 0 old
    → IsKnownSum s.inputs (length old) sum → IsPlaced shared sum old new slot → IsAtHome s shared sum old new slot
at_home s false sum old new slot nodes known is = record {
  grown = grown_from sum old new (inl is.0);
  known = subst (AreKnownSums s.inputs 0) (sym is.0) nodes;
  few = rw is.0 (omega arith);
  products = rw (is.0, is.1) (omega arith);
  light = rw (is.0, is.1) (omega arith);
  no_constants = λ none. subst (AllByRecursion HasNoConstant) (sym is.0) none;
  few_bits = λ few. subst (AllByRecursion HasFewBits) (sym is.0) few;
  stays = λ no. is.1;
  factor = λ yes. cc;
}
at_home s true sum old new slot nodes known is = elim is as (λ _. IsAtHome s true sum old new slot) [
  | inl short ↦ shortened s sum old new slot nodes known short
  | inr node ↦ on_node s sum old new slot nodes known node
]

pub slots_still : (s : SettledView) (old new : List SumView) (shared : List Bool) (left : List ℕ) (some : List Slot) → IsGrown old new
    → AreSlots s old shared left some → AreSlots s new shared left some
slots_still s old new shared left some g are = record { once = are.once; each = λ k slot e. still_slot s old new shared left k slot g (are.each k slot e) }

-- Nodes that are written one after another, and outputs behind them.
use Rattle.std.proofs.Common.{◌≡◌, ℕ, ◌+◌, ◌<◌, Bool, false, List, [], ◌∷◌, ◌++◌, length, get_or, set, slice_get, Some, None, Option}
use Rattle.std.proofs.Common.{refl, sym, ap, ◌∙◌, subst, inl, inr, arith}
use Rattle.std.specs.Bool.{xor}
use Rattle.std.specs.List.{AllByRecursion}
use Rattle.std.proofs.lemmas.List.{length-append, length-set}
use Rattle.std.proofs.lemmas.Option.{get_or_from_slice_get, slice_get_within}
use Rattle.list_facts.specs.Lists.{AllFrom}
use Rattle.list_facts.proofs.AllLemmas.{AllByRecursion-at, AllByRecursion-push, AllByRecursion-weaker, AllFrom-push}
use Rattle.list_facts.proofs.BitLemmas.{xor_none, xor_nothing}
use Rattle.dependency_graph.specs.declared.node.Base.{Base}
use Rattle.dependency_graph.specs.declared.node.Base.TheVariants as bases
use Rattle.bit_sums.specs.Growing.{IsFinished}
use Rattle.bit_sums.specs.Sums.{SumView, sum_value}
use Rattle.sum_graph.specs.Graphs.{IsKnownSum, bit_sum, is_known, sum_on}
use Rattle.sum_graph.proofs.PlaceLemmas.{IsGrown, same_value, still_known}
use Rattle.few_products.specs.declared.placing.Place.{Place}
use Rattle.few_products.specs.declared.placing.Written.{Written}
use Rattle.few_products.specs.inside.Writing.{HaveNoPlace, AreWritten, HasWritten, IsNamed, IsOutput, IsPlaceOf, IsValuation, IsWhole, IsWritten, IsWrittenNode, IsWrittenOutput, bit_on}
use Rattle.few_products.proofs.PlacingLemmas.{agree_still, of_later, within_still}
use Rattle.few_products.proofs.ReadingLemmas.{read_set}

-- ---- nodes

no_place : (count : ℕ) (places : List (Option Place)) (k : ℕ) (place : Place) → HaveNoPlace count places → slice_get places k ≡ Some (Some place) → ⊥
no_place count places k place are e =
    let low : k < length places = slice_get_within places k (Some place) e in
    let here : get_or places k (Some place) ≡ None = AllByRecursion-at (λ (o : Option Place). o ≡ None) places k (Some place) are.none low in
    let read : get_or places k (Some place) ≡ Some place = get_or_from_slice_get places k (Some place) (Some place) e in
    cc

pub no_places : HaveNoPlace 0 []
no_places = record { long = refl; none = tt }

pub one_more_nowhere : (k : ℕ) (places : List (Option Place)) → HaveNoPlace k places → HaveNoPlace (k + 1) (places ++ None ∷ [])
one_more_nowhere k places are =
    let one : List (Option Place) = None ∷ [] in
    record {
      long = omega (arith, length-append places one, are.long);
      none = AllByRecursion-push (λ (o : Option Place). o ≡ None) places None are.none refl;
    }

pub nothing_written : (n : ℕ) (definitions : List SumView) (places : List (Option Place)) → HaveNoPlace (length definitions) places
    → AreWritten n definitions places []
nothing_written n definitions places are = record {
  long = are.long;
  standing = record { known = tt; within = λ k place e. absurd (no_place (length definitions) places k place are e) };
  few = omega arith;
  agree = λ input bit v. record { inputs = v.inputs; nodes_agree = λ k place e. absurd (no_place (length definitions) places k place are e) };
}

pub one_more_written : (n : ℕ) (definitions : List SumView) (places : List (Option Place)) (old new : List SumView) (k : ℕ) (s : SumView) (place : Place)
    → AreWritten n definitions places old → slice_get definitions k ≡ Some s → IsPlaceOf n places s old new place
    → AreWritten n definitions (set places k (Some place)) new
one_more_written n definitions places old new k s place are e at =
    let g : IsGrown old new = record { more = at.more; is = at.grown } in
    record {
      long = length-set places k (Some place) ∙ are.long;
      standing = record {
        known = at.known;
        within = λ j other f.
            elim (read_set places k (Some place) j (Some other) f) as (λ _. other.node < length new) [
              | inl here ↦ let same : other ≡ place = cc (here.1) in omega (arith, at.within, ap (λ (p : Place). p.node) same)
              | inr there ↦ within_still n places old new are.standing g j other there
            ];
      };
      few = at.few;
      agree = λ input bit v.
          let still = agree_still n places old new input bit are.standing g (are.agree input bit v) in
          record {
            inputs = v.inputs;
            nodes_agree = λ j other f.
                elim (read_set places k (Some place) j (Some other) f)
                as (λ _. bit (bases.Node j) ≡ xor other.negated (bit_on new input (bases.Node other.node))) [
                  | inl here ↦
                      let same : other ≡ place = cc (here.1) in
                      ap (λ (i : ℕ). bit (bases.Node i)) (sym here.0)
                      ∙ v.holds.each k s e
                      ∙ sym (at.values input bit (are.agree input bit v))
                      ∙ ap (λ (p : Place). xor p.negated (bit_on new input (bases.Node p.node))) (sym same)
                  | inr there ↦ still.nodes_agree j other there
                ];
          };
    }

pub next_written : (definitions : List SumView) (old new : Written) (k : ℕ) (s : SumView) (place : Place) → HasWritten definitions old
    → slice_get definitions k ≡ Some s → IsWrittenNode s old new place
    → AreWritten new.inputs definitions (set new.places.items k (Some place)) new.nodes.keys
next_written definitions old new k s place are e is =
    of_later (λ n places. AreWritten n definitions (set places k (Some place)) new.nodes.keys) old new is.0
    (one_more_written old.inputs definitions old.places.items old.nodes.keys new.nodes.keys k s place are e is.1)

-- ---- outputs

one_bit : (v : Bool) → xor false (xor (xor v false) false) ≡ v
one_bit v = xor_none (xor (xor v false) false) ∙ xor_nothing (xor v false) ∙ xor_nothing v

pub named_by_bit : (definitions : List SumView) (k : ℕ) (sum : SumView) → sum ≡ bit_sum (bases.Node k) → IsNamed definitions k sum
named_by_bit definitions k sum is = record { values = λ bit h. ap (sum_value bit) is ∙ one_bit (bit (bases.Node k)) }

pub named_by_sum : (definitions : List SumView) (k : ℕ) (s sum : SumView) → slice_get definitions k ≡ Some s → sum ≡ s → IsNamed definitions k sum
named_by_sum definitions k s sum e is = record { values = λ bit h. ap (sum_value bit) is ∙ sym (h.each k s e) }

pub output_written : (n : ℕ) (definitions : List SumView) (places : List (Option Place)) (k : ℕ) (old new : List SumView) (named sum whole : SumView)
    → IsNamed definitions k named → IsWritten n places named old new sum → IsFinished sum whole → IsOutput n definitions places k old new whole
output_written n definitions places k old new named sum whole is written finished = record {
  more = written.more;
  grown = written.grown;
  still = written.still;
  few = written.few;
  known = finished.over (is_known n (length new)) written.known;
  values = λ input bit agree h. finished.values (bit_on new input) ∙ written.values input bit agree ∙ is.values bit h;
}

-- nodes are written, and so many outputs
pub record AreOutputs (n : ℕ) (definitions : List SumView) (places : List (Option Place)) (k count : ℕ) (nodes sums : List SumView) : Type 0 where
  pub written : AreWritten n definitions places nodes
  pub long : length sums ≡ count
  pub each : AllByRecursion (IsKnownSum n (length nodes)) sums
  pub values : (input : List Bool) (bit : Base → Bool) → IsValuation definitions input bit
      → AllFrom (λ j sum. sum_on nodes input sum ≡ bit (bases.Node (k + j))) 0 sums

pub no_outputs : (n : ℕ) (definitions : List SumView) (places : List (Option Place)) (k : ℕ) (nodes : List SumView) → AreWritten n definitions places nodes
    → AreOutputs n definitions places k 0 nodes []
no_outputs n definitions places k nodes are = record { written = are; long = refl; each = tt; values = λ input bit v. tt }

values_still : (n : ℕ) (old new : List SumView) (input : List Bool) (w : ℕ → Bool) (i : ℕ) (sums : List SumView) → IsGrown old new
    → AllByRecursion (IsKnownSum n (length old)) sums → AllFrom (λ j sum. sum_on old input sum ≡ w j) i sums
    → AllFrom (λ j sum. sum_on new input sum ≡ w j) i sums
values_still n old new input w i [] g known all = tt
values_still n old new input w i (s ∷ ss) g known all =
    (same_value n old new input s g known.0 ∙ all.0, values_still n old new input w (i + 1) ss g known.1 all.1)

pub one_more_output : (n : ℕ) (definitions : List SumView) (places : List (Option Place)) (k count node : ℕ) (old new sums : List SumView) (sum : SumView)
    → node ≡ k + count → AreOutputs n definitions places k count old sums → IsOutput n definitions places node old new sum
    → AreOutputs n definitions places k (count + 1) new (sums ++ sum ∷ [])
one_more_output n definitions places k count node old new sums sum at are is =
    let g : IsGrown old new = record { more = is.more; is = is.grown } in
    record {
      written = record {
        long = are.written.long;
        standing = is.still;
        few = is.few are.written.few;
        agree = λ input bit v. agree_still n places old new input bit are.written.standing g (are.written.agree input bit v);
      };
      long = omega (arith, length-append sums (sum ∷ []), are.long);
      each = AllByRecursion-push (IsKnownSum n (length new)) sums sum
          (AllByRecursion-weaker (IsKnownSum n (length old)) (IsKnownSum n (length new)) (λ t known. still_known n old new t g known) sums are.each) is.known;
      values = λ input bit v.
          let last : node ≡ k + (0 + length sums) = omega (arith, at, are.long) in
          AllFrom-push (λ j s. sum_on new input s ≡ bit (bases.Node (k + j))) 0 sums sum
          (values_still n old new input (λ j. bit (bases.Node (k + j))) 0 sums g are.each (are.values input bit v))
          (is.values input bit (are.written.agree input bit v) v.holds ∙ ap (λ (i : ℕ). bit (bases.Node i)) last);
    }

pub next_output : (definitions : List SumView) (k count node : ℕ) (old new : Written) (sums : List SumView) (sum : SumView) → node ≡ k + count
    → AreOutputs old.inputs definitions old.places.items k count old.nodes.keys sums → IsWrittenOutput definitions node old new sum
    → AreOutputs new.inputs definitions new.places.items k (count + 1) new.nodes.keys (sums ++ sum ∷ [])
next_output definitions k count node old new sums sum at are is =
    of_later (λ n places. AreOutputs n definitions places k (count + 1) new.nodes.keys (sums ++ sum ∷ [])) old new is.0
    (one_more_output old.inputs definitions old.places.items k count node old.nodes.keys new.nodes.keys sums sum at are is.1)

pub whole : (n m : ℕ) (definitions : List SumView) (places : List (Option Place)) (k i count : ℕ) (nodes all sums : List SumView) → n ≡ m → i ≡ count
    → all ≡ nodes → AreOutputs n definitions places k i nodes sums → IsWhole m definitions k count all sums
whole n m definitions places k i count nodes all sums inputs end same are =
    subst (λ j. IsWhole j definitions k count all sums) inputs
    (subst (λ (l : List SumView). IsWhole n definitions k count l sums) (sym same) (record {
      known = are.written.standing.known;
      few = are.written.few;
      long = are.long ∙ end;
      each = are.each;
      values = are.values;
    }))

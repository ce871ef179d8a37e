-- The definitions that nodes have before anything is done, and changes of them.
use Rattle.std.proofs.Common.{◌≡◌, ℕ, ◌+◌, ◌≤◌, Bool, false, List, [], ◌∷◌, ◌++◌, length, set, take, slice_get, Some}
use Rattle.std.proofs.Common.{refl, sym, ap, ap₂, ◌∙◌, subst, inl, inr, arith, append_assoc, append-nil}
use Rattle.std.specs.Bool.{xor}
use Rattle.std.specs.List.{AllByRecursion}
use Rattle.std.proofs.lemmas.List.{length-append, length-set, take_all}
use Rattle.std.proofs.lemmas.Option.{get_or_from_slice_get, slice_get_within}
use Rattle.list_facts.proofs.AllLemmas.{AllByRecursion-at, AllByRecursion-push}
use Rattle.list_facts.proofs.BitLemmas.{xor_none, xor_nothing, xor_same}
use Rattle.dependency_graph.specs.declared.node.Base.TheVariants as bases
use Rattle.bit_sums.specs.Sums.{SumView, sum_value}
use Rattle.sum_graph.specs.Graphs.{AreKnownSums, IsKnownSum, IsSumGraph, SumGraphView, bit_sum, sum_on}
use Rattle.sum_graph.proofs.SumNodeLemmas.{known_further, known_more, sum_on-more, value_of_sum}
use Rattle.sum_graph.proofs.WalkLemmas.{take_next}
use Rattle.wide_sums.specs.Wide.{IsAdded, Vanishes}
use Rattle.few_products.specs.inside.Definitions.{AreBegun, AreDefinitions, AreKept}
use Rattle.few_products.specs.inside.Rewriting.{AreRewritten}
use Rattle.few_products.specs.inside.Writing.{bit_on}
use Rattle.few_products.proofs.ReadingLemmas.{read_back, read_front, read_set}

-- ---- before anything is done

pub node_next : (nodes all new : List SumView) (k : ℕ) (s x : SumView) → slice_get nodes k ≡ Some s → x ≡ s → new ≡ all ++ x ∷ [] → all ≡ take k nodes
    → new ≡ take (k + 1) nodes
node_next nodes all new k s x e same made before =
    made ∙ ap₂ (λ (l : List SumView) (y : SumView). l ++ y ∷ []) before same ∙ sym (take_next nodes k s e)

pub all_next : {A : Type 0} (P : A → Type 0) (xs : List A) (k : ℕ) (x : A) → slice_get xs k ≡ Some x → AllByRecursion P (take k xs) → P x
    → AllByRecursion P (take (k + 1) xs)
all_next P xs k x e before is = subst (AllByRecursion P) (sym (take_next xs k x e)) (AllByRecursion-push P (take k xs) x before is)

pub all_done : {A : Type 0} (P : A → Type 0) (xs : List A) (k : ℕ) → length xs ≤ k → AllByRecursion P (take k xs) → AllByRecursion P xs
all_done P xs k end all = subst (AllByRecursion P) (take_all k xs end) all

pub begun : (g : SumGraphView) (all : List SumView) → all ≡ g.nodes → IsSumGraph g → AreBegun g 0 all
begun g all is graph = record { is = is ∙ sym (append-nil g.nodes); known = subst (AreKnownSums g.inputs 0) (sym is) graph.nodes }

output_known : (g : SumGraphView) (k : ℕ) (s : SumView) → IsSumGraph g → slice_get g.outputs k ≡ Some s → IsKnownSum g.inputs (length g.nodes) s
output_known g k s graph e =
    subst (IsKnownSum g.inputs (length g.nodes)) (get_or_from_slice_get g.outputs k s s e)
    (AllByRecursion-at (IsKnownSum g.inputs (length g.nodes)) g.outputs k s graph.outputs (slice_get_within g.outputs k s e))

pub one_more : (g : SumGraphView) (k : ℕ) (all : List SumView) (s : SumView) → IsSumGraph g → slice_get g.outputs k ≡ Some s → AreBegun g k all
    → AreBegun g (k + 1) (all ++ s ∷ [])
one_more g k all s graph e before =
    let long : length all ≡ length g.nodes + length (take k g.outputs) = ap length before.is ∙ length-append g.nodes (take k g.outputs) in
    record {
      is =
          ap (λ l. l ++ s ∷ []) before.is
          ∙ append_assoc g.nodes (take k g.outputs) (s ∷ [])
          ∙ ap (λ l. g.nodes ++ l) (sym (take_next g.outputs k s e));
      known = known_more g.inputs all s before.known
          (known_further g.inputs (length g.nodes) (length all) (omega (arith, long)) s (output_known g k s graph e));
    }

pub all_outputs : (g : SumGraphView) (k : ℕ) (all : List SumView) → length g.outputs ≤ k → AreBegun g k all → AreBegun g (length g.outputs) all
all_outputs g k all end are = record {
  is = are.is ∙ ap (λ l. g.nodes ++ l) (take_all k g.outputs end ∙ sym (take_all (length g.outputs) g.outputs (omega arith)));
  known = are.known;
}

pub no_more : (g : SumGraphView) (all : List SumView) → AreBegun g (length g.outputs) all → AreDefinitions g all
no_more g all are = record {
  more = [];
  is = are.is ∙ ap (λ l. g.nodes ++ l) (take_all (length g.outputs) g.outputs (omega arith)) ∙ sym (append-nil (g.nodes ++ g.outputs));
  known = are.known;
}

pub and_more : (g : SumGraphView) (all : List SumView) (s : SumView) → AreDefinitions g all → IsKnownSum g.inputs (length all) s
    → AreDefinitions g (all ++ s ∷ [])
and_more g all s are known = record {
  more = are.more ++ s ∷ [];
  is = ap (λ l. l ++ s ∷ []) are.is ∙ append_assoc (g.nodes ++ g.outputs) are.more (s ∷ []);
  known = known_more g.inputs all s are.known known;
}

-- on every input the nodes have values for which the definitions hold
pub has_valuation : (g : SumGraphView) (all : List SumView) → IsSumGraph g → AreDefinitions g all → AreRewritten g all
has_valuation g all graph are = record {
  each = λ input. record {
    bit = bit_on all input;
    valuation = record { inputs = λ i. refl; holds = record { each = λ k s e. value_of_sum g.inputs all input k s are.known e } };
    outputs = λ j s e.
        let whole : (g.nodes ++ g.outputs) ++ are.more ≡ g.nodes ++ (g.outputs ++ are.more) = append_assoc g.nodes g.outputs are.more in
        let there : slice_get all (length g.nodes + j) ≡ Some s =
        ap (λ l. slice_get l (length g.nodes + j)) are.is ∙ read_front (g.nodes ++ g.outputs) are.more (length g.nodes + j) s
        (read_back g.nodes g.outputs j s e) in
        value_of_sum g.inputs all input (length g.nodes + j) s are.known there
        ∙ ap (λ l. sum_on l input s) (are.is ∙ whole)
        ∙ sum_on-more g.inputs g.nodes (g.outputs ++ are.more) input s (output_known g j s graph e);
  };
}

-- ---- changes

pub kept_same : (all : List SumView) → AreKept all all
kept_same all = record { holds = λ bit h. h; long = refl }

pub kept_both : (old mid new : List SumView) → AreKept old mid → AreKept mid new → AreKept old new
kept_both old mid new first second = record {
  holds = λ bit h. second.holds bit (first.holds bit h);
  long = second.long ∙ first.long;
}

pub still_rewritten : (g : SumGraphView) (old new : List SumView) → AreRewritten g old → AreKept old new → AreRewritten g new
still_rewritten g old new before kept = record {
  each = λ input.
      let has = before.each input in
      record {
        bit = has.bit;
        valuation = record { inputs = has.valuation.inputs; holds = kept.holds has.bit has.valuation.holds };
        outputs = has.outputs;
      };
}

-- a sum that vanishes is added to a node
pub added : (old : List SumView) (k : ℕ) (s change sum : SumView) → slice_get old k ≡ Some s → Vanishes old change → IsAdded s change sum
    → AreKept old (set old k sum)
added old k s change sum e zero is = record {
  holds = λ bit h. record {
    each = λ j t at.
        elim (read_set old k sum j t at) as (λ _. bit (bases.Node j) ≡ sum_value bit t) [
          | inl here ↦
              ap (λ (i : ℕ). bit (bases.Node i)) (sym here.0)
              ∙ h.each k s e
              ∙ sym (xor_nothing (sum_value bit s))
              ∙ ap (xor (sum_value bit s)) (sym (zero.values bit h))
              ∙ sym (is.values bit)
              ∙ ap (sum_value bit) (sym here.1)
          | inr there ↦ h.each j t there
        ];
  };
  long = length-set old k sum;
}

one_bit : (v : Bool) → xor false (xor (xor v false) false) ≡ v
one_bit v = xor_none (xor (xor v false) false) ∙ xor_nothing (xor v false) ∙ xor_nothing v

-- a node's bit and its sum together are 0
pub zero_of : (all : List SumView) (k : ℕ) (s bit zero : SumView) → slice_get all k ≡ Some s → bit ≡ bit_sum (bases.Node k) → IsAdded s bit zero
    → Vanishes all zero
zero_of all k s node zero e at is = record {
  values = λ bit h.
      is.values bit
      ∙ ap₂ xor (sym (h.each k s e)) (ap (sum_value bit) at ∙ one_bit (bit (bases.Node k)))
      ∙ xor_same (bit (bases.Node k));
}

-- What is written has the values of the graph that was rewritten.
use Rattle.std.proofs.Common.{◌≡◌, ℕ, ◌+◌, ◌≤◌, Bool, List, [], ◌∷◌, length, map, slice_get, Some}
use Rattle.std.proofs.Common.{refl, ap, ap₂, ◌∙◌, subst, arith}
use Rattle.list_facts.specs.Lists.{AllFrom}
use Rattle.dependency_graph.specs.declared.node.Base.TheVariants as bases
use Rattle.bit_sums.specs.Sums.{SumView}
use Rattle.sum_graph.specs.Graphs.{IsSumGraph, SumGraphView, sum_on}
use Rattle.few_products.specs.inside.Rewriting.{AreRewritten, IsRewritten}
use Rattle.few_products.specs.inside.Writing.{IsWhole}
use Rattle.few_products.proofs.ReadingLemmas.{read_back}

behind : (o : SumView) (os : List SumView) (j : ℕ) (t : SumView) → slice_get os j ≡ Some t → slice_get (o ∷ os) (1 + j) ≡ Some t
behind o os j t e = read_back (o ∷ []) os j t e

-- two lists of sums have the same values, place by place
same_values : (f h : SumView → Bool) (w : ℕ → Bool) (i : ℕ) (sums others : List SumView) → length sums ≡ length others
    → AllFrom (λ j s. f s ≡ w j) i sums → ((j : ℕ) (o : SumView) → slice_get others j ≡ Some o → w (i + j) ≡ h o) → map f sums ≡ map h others
same_values f h w i [] [] long all same = refl
same_values f h w i [] (o ∷ os) long all same = absurd (omega (arith, long))
same_values f h w i (s ∷ ss) [] long all same = absurd (omega (arith, long))
same_values f h w i (s ∷ ss) (o ∷ os) long all same =
    let first : w i ≡ h o = subst (λ (k : ℕ). w k ≡ h o) (omega arith) (same 0 o refl) in
    let rest = λ (j : ℕ) (t : SumView) (e : slice_get os j ≡ Some t). (let next : w (i + (1 + j)) ≡ h t = same (1 + j) t (behind o os j t e) in
    subst (λ (k : ℕ). w k ≡ h t) (omega arith) next) in
    ap₂ (λ b bs. b ∷ bs) (all.0 ∙ first) (same_values f h w (i + 1) ss os (omega (arith, long)) all.1 rest)

abbrev pub graph_of : ℕ → List SumView → List SumView → SumGraphView
graph_of inputs nodes outputs = record { inputs = inputs; nodes = nodes; outputs = outputs }

pub done : (g : SumGraphView) (definitions nodes sums : List SumView) (first count : ℕ) → IsSumGraph g → AreRewritten g definitions
    → first ≡ length g.nodes → count ≡ length g.outputs → 1 ≤ count → IsWhole g.inputs definitions first count nodes sums
    → IsRewritten g (graph_of g.inputs nodes sums)
done g definitions nodes sums first count graph are at many some is =
    let long : length sums ≡ length g.outputs = is.long ∙ many in
    record {
      keeps = record {
        nodes = is.known;
        outputs = is.each;
        some = λ any. omega (arith, long, many, some);
        few_inputs = graph.few_inputs;
        few_outputs = omega (arith, long, graph.few_outputs);
        few_nodes = is.few;
      };
      inputs = refl;
      outputs = long;
      values = λ input.
          let has = are.each input in
          same_values (sum_on nodes input) (sum_on g.nodes input) (λ j. has.bit (bases.Node (first + j))) 0 sums g.outputs long
          (is.values input has.bit has.valuation)
          (λ j o e. ap (λ (k : ℕ). has.bit (bases.Node k)) (omega (arith, at)) ∙ has.outputs j o e);
    }

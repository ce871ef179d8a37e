-- What was walked over gives a lean graph.
use Rattle.std.proofs.Common.{◌≡◌, ℕ, Bool, List, [], length, map, refl, sym, ap, ◌∙◌, subst, arith}
use Rattle.std.proofs.lemmas.List.{length-map, take_all}
use Rattle.claim_check.specs.Settled.{SettledView, settled_value}
use Rattle.bit_sums.specs.Sums.{SumView}
use Rattle.sum_graph.specs.Graphs.{IsSumGraph, IsLeanOf, SumGraphView, sum_on}
use Rattle.sum_graph.specs.Lone.{ands_beside}
use Rattle.sum_graph.specs.declared.slot.Slot.{Slot}
use Rattle.sum_graph.specs.inside.Walks.{IsEnded, IsWalked}
use Rattle.sum_graph.proofs.OutputLemmas.{some_output}

-- the graph of these nodes and outputs
abbrev pub lean : ℕ → List SumView → List SumView → SumGraphView
lean inputs nodes outputs = record { inputs = inputs; nodes = nodes; outputs = outputs }

outputs_long : (s : SettledView) (shared : List Bool) (some : List Slot) (nodes sums : List SumView) → IsEnded s shared some nodes sums (length s.outputs)
    → length sums ≡ length s.outputs
outputs_long s shared some nodes sums e =
    sym (length-map sums (sum_on nodes []))
    ∙ ap length (e.values [] ∙ ap (map (settled_value s [])) (take_all (length s.outputs) s.outputs (omega arith)))
    ∙ length-map s.outputs (settled_value s [])

keeps : (s : SettledView) (marks shared : List Bool) (before after : List Slot) (nodes sums : List SumView) → IsWalked s marks before nodes (length s.nodes)
    → IsEnded s shared after nodes sums (length s.outputs) → IsSumGraph (lean s.inputs nodes sums)
keeps s marks shared before after nodes sums w e = record {
  nodes = w.known;
  outputs = e.known;
  some = λ some.
      (let more = some_output s w.settled (omega (arith, some, w.few)) in omega (arith, more, outputs_long s shared after nodes sums e));
  few_inputs = w.settled.few_inputs;
  few_outputs = omega (arith, outputs_long s shared after nodes sums e, w.settled.few_outputs);
  few_nodes = omega (arith, w.few, w.settled.few_nodes);
}

lean_of : (s : SettledView) (marks shared : List Bool) (before after : List Slot) (nodes sums : List SumView) → IsWalked s marks before nodes (length s.nodes)
    → IsEnded s shared after nodes sums (length s.outputs) → IsLeanOf s (lean s.inputs nodes sums)
lean_of s marks shared before after nodes sums w e = record {
  inputs = refl;
  outputs = outputs_long s shared after nodes sums e;
  values = λ input. e.values input ∙ ap (map (settled_value s input)) (take_all (length s.outputs) s.outputs (omega arith));
  few = w.few;
  products = omega (arith, e.products);
  nodes_beside = λ lone go.
      let all = ap (ands_beside lone) (take_all (length s.nodes) s.nodes (omega arith)) in
      omega (arith, all, w.nodes_beside lone go);
  light = omega (arith, e.light);
  light_nodes = omega (arith, w.light);
  no_constants = w.no_constants;
  few_bits = w.few_bits;
  few_output_bits = e.few_bits;
}

pub record IsDone (s : SettledView) (l : SumGraphView) : Type 0 where
  pub keeps : IsSumGraph l
  pub lean : IsLeanOf s l

-- as the code comes to them
pub done : (s first second : SettledView) (marks shared : List Bool) (before after : List Slot) (made nodes sums : List SumView) (inputs : ℕ)
    → first ≡ s → second ≡ first → inputs ≡ s.inputs → nodes ≡ made → IsWalked first marks before made (length first.nodes)
    → IsEnded second shared after made sums (length second.outputs) → IsDone s (lean inputs nodes sums)
done s first second marks shared before after made nodes sums inputs e f is same w d =
    let walked = subst (λ (g : SettledView). IsWalked g marks before made (length g.nodes)) e w in
    let ended = subst (λ (g : SettledView). IsEnded g shared after made sums (length g.outputs)) (f ∙ e) d in
    rw (is, same) (record {
      keeps = keeps s marks shared before after made sums walked ended;
      lean = lean_of s marks shared before after made sums walked ended;
    })

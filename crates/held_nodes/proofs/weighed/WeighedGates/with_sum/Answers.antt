use Rattle.std.proofs.Common.{◌≡◌, ℕ, ◌+◌, ◌-◌, ◌≤◌, List, ◌++◌, sum_by, ap, ◌∙◌, arith}
use Rattle.std.proofs.lemmas.List.Sums.{sum_by-append}
use Rattle.dependency_graph.specs.declared.node.Base.{Base}
use Rattle.bit_sums.specs.Sums.{SumView}
use Rattle.mct_circuit.specs.Gates.{GateView}
use Rattle.mct_circuit.specs.Sizes.{weight_of}
use Rattle.sum_toggles.specs.Toggles.{sum_gates, toggle_weight}
use Rattle.sum_toggles.proofs.SumLemmas.{weight_sum}
use Rattle.held_nodes.specs.inside.Kept.{HasProducts}
use Rattle.held_nodes.proofs.weighed.WeighedGates.with_sum.Goals as goal

-- the gates of a sum that has the room are weighed, too
weighed : (line : Base → ℕ) (target : ℕ) (s : SumView) (gates next : List GateView) (weight more most : ℕ) → HasProducts s
    → next ≡ gates ++ sum_gates line target s → weight ≡ sum_by weight_of gates → weight ≤ most → more ≡ toggle_weight s → more ≤ most - weight
    → (weight + more ≡ sum_by weight_of next) × (weight + more ≤ most)
weighed line target s gates next weight more most are e is within also room =
    let whole : sum_by weight_of next ≡ sum_by weight_of gates + toggle_weight s =
    ap (λ (all : List GateView). sum_by weight_of all) e ∙ sum_by-append weight_of gates (sum_gates line target s)
    ∙ ap (λ w. sum_by weight_of gates + w) (weight_sum line target s are) in
    (omega (arith, whole, is, also), omega (arith, within, room))

pub invariant_of-result : goal.invariant_of-result
invariant_of-result c =
    weighed _ _ c.args.sum.now c.self.inside.gates.items c.append_sum.new.gates.items c.self.inside.weight c.in-Some.more c.self.inside.most
    c.in-Some.ensures.products c.in_ok-append_sum.ensures c.self.invariant.0 c.self.invariant.1 c.in-Some.ensures.weight.0 c.in-Some.ensures.weight.1

pub returns-clause-light : goal.returns-clause-light
returns-clause-light c = let both = invariant_of-result c in omega (arith, both.0, both.1)

use Rattle.std.proofs.Common.{rules, ◌≡◌, ◌≤◌, length, map, sym, ap, subst, arith}
use Rattle.dependency_graph.specs.Graphs.{GraphView, IsGraph, IsGraphOf, sig_of}
use Rattle.dependency_graph.specs.Folds.{FoldView, folded_by, nothing_folded, graph_of}
use Rattle.dependency_graph.specs.Uses.{last_uses_of}
use Rattle.dependency_graph.proofs.FoldLemmas.{parts_are, graph_is}
use Rattle.dependency_graph.proofs.ValueLemmas.{graph_of_tape}
use Rattle.revs_tape.specs.Measures.{inputs_of}
use Rattle.revs_tape.specs.Tapes.{TapeView}
use Rattle.revs_tape.specs.declared.limits.TheConstants.{MOST_WRITES}
use Rattle.dependency_graph.proofs.graph.Graph.of.Goals as goal

-- the graph of a tape whose fold has these parts
abbrev graph_from : TapeView → FoldView → GraphView
graph_from t f = record { inputs = inputs_of t; nodes = f.nodes; sigs = f.sigs; outputs = map (sig_of f.sigs) t.outputs }

pub invariant_of-result : goal.invariant_of-result
invariant_of-result c =
    let t = c.args.tape.now in
    let parts : FoldView = record { nodes = c.folding.inside.nodes.items; sigs = c.folding.inside.sigs.items } in
    let all : parts ≡ folded_by nothing_folded t.entries = search rules in
    let found : c.in_ok-outputs.outputs.items ≡ map (sig_of parts.sigs) t.outputs = search rules in
    let g : GraphView = record { inputs = c.inputs.result; nodes = parts.nodes; sigs = parts.sigs; outputs = c.in_ok-outputs.outputs.items } in
    let table : c.in_ok-last_uses.last_uses.items ≡ last_uses_of g = rw (c.deref-2.ensures.value, c.deref-3.ensures.value) at c.in_ok-last_uses.ensures in
    (parts_are t g.inputs parts g.outputs c.inputs.ensures.tape c.inputs.ensures.inputs all found, table)

fits : {g : GraphView} → IsGraph g → length g.nodes ≤ MOST_WRITES
fits is = omega (arith, is.few, is.few_writes)

pub last_uses-requires : goal.last_uses-requires
last_uses-requires c =
    let t = c.args.tape.now in
    let parts : FoldView = record { nodes = c.folding.inside.nodes.items; sigs = c.folding.inside.sigs.items } in
    let all : parts ≡ folded_by nothing_folded t.entries = search rules in
    let is : IsGraph (graph_of t) = graph_is t c.outputs.ensures.tape in
    rw c.deref-2.ensures.value (subst (λ (f : FoldView). length f.nodes ≤ MOST_WRITES) (sym all) (fits is))

pub returns-clause-fold : goal.returns-clause-fold
returns-clause-fold c =
    let t = c.args.tape.now in
    let parts : FoldView = record { nodes = c.folding.inside.nodes.items; sigs = c.folding.inside.sigs.items } in
    let all : parts ≡ folded_by nothing_folded t.entries = search rules in
    rw (c.inputs.ensures.inputs, c.in_ok-outputs.ensures, c.deref.ensures.value, c.outputs.ensures.outputs) (ap (graph_from t) all)

pub returns-clause-of_tape : goal.returns-clause-of_tape
returns-clause-of_tape c =
    subst (IsGraphOf c.args.tape.now) (sym (returns-clause-fold c)) (graph_of_tape c.args.tape.now c.inputs.ensures.tape)

pub returns-clause-graph : goal.returns-clause-graph
returns-clause-graph c = subst IsGraph (sym (returns-clause-fold c)) (graph_is c.args.tape.now c.inputs.ensures.tape)
